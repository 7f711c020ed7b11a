-- Definitions: the calls that a thread may make next, and whether it waits, as the machine would
-- answer.
use Rattle.std.specs.Prelude.{ℕ, ◌+◌, ◌*◌, Bool, true, false, ◌&&◌, is_none, is_some}
use Rattle.lk_locks.specs.State.{State, phase_at}
use Rattle.lk_locks.specs.Steps.{refusal_of}
use Rattle.lk_locks.specs.Locks.{step_due, step_of}
use Rattle.lk_locks.specs.declared.kinds.Op.{Op}
use Rattle.lk_locks.specs.declared.kinds.Op.TheVariants.{Acquire, Release, ReadLock, ReadUnlock}
use Rattle.lk_locks.specs.declared.kinds.Op.TheVariants.{WriteLock, WriteUnlock, Downgrade}
use Rattle.lk_locks.specs.declared.kinds.Move.TheVariants.{Call}
use Rattle.lk_locks.specs.declared.kinds.Outcome.{Outcome}
use Rattle.lk_locks.specs.declared.kinds.Outcome.TheVariants.{Waits}
use Rattle.lk_page.specs.Codes.{bit}

-- 1 if the call would be accepted
abbrev pub call_bit : State → ℕ → Op → ℕ
call_bit s t op = bit (is_none (refusal_of s t (Call op)))

-- the calls that would be accepted of a thread
abbrev pub allowed_calls : State → ℕ → ℕ
allowed_calls s t =
    call_bit s t Acquire + 2 * call_bit s t Release + 4 * call_bit s t ReadLock
    + 8 * call_bit s t ReadUnlock
    + 16 * call_bit s t WriteLock + 32 * call_bit s t WriteUnlock + 64 * call_bit s t Downgrade

abbrev pub is_wait : Outcome → Bool
is_wait Waits = true
is_wait o = false

-- whether the next step of a thread, taken now, would be a failed poll
abbrev pub next_waits : State → ℕ → Bool
next_waits s t =
    is_some (step_due s.kind (phase_at s.phases t))
    && is_wait (step_of s.kind s.bits s.words t (phase_at s.phases t)).outcome

-- Whether a thread waits after a move of its own with this outcome: that was a failed poll, or the
-- thread is in the queue and its next step would be one.
abbrev pub waits_after : State → ℕ → Outcome → Bool → Bool
waits_after s t Waits queued = true
waits_after s t outcome queued = queued && next_waits s t
