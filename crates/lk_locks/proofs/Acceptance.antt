-- A move is accepted if and only if no refusal applies to it.
use Rattle.std.proofs.Common.{Bool, Option, Some, arith, false, if◌then◌else◌, is_none}
use Rattle.std.proofs.Common.{length, nat_lt, refl, true, ℕ, ◌&&◌, ◌≡◌}
use Rattle.lk_locks.specs.State.{State, phase_at}
use Rattle.lk_locks.specs.Steps.{accepts, belongs, may_make, refusal_in, refusal_of}
use Rattle.lk_locks.specs.Types.{LockKind, Mcs, Move, Phase, Refusal, RwFifo, RwSimple}
use Rattle.lk_locks.specs.Types.{NoSuchThread, Ticket, WrongLock}

-- a thread may make a move exactly if it is one of the lock's, and is not refused in its phase
may_make_is : (kind : LockKind) (p : Phase) (m : Move)
    → may_make kind p m
    ≡ is_none (if belongs kind m then refusal_in kind p m else Some WrongLock)
may_make_is Ticket p m = grind arith
may_make_is Mcs p m = grind arith
may_make_is RwSimple p m = grind arith
may_make_is RwFifo p m = grind arith

in_lock : (within may : Bool) (refusal : Option Refusal) → may ≡ is_none refusal
    → (within && may) ≡ is_none (if within then refusal else Some NoSuchThread)
in_lock true may refusal same = same
in_lock false may refusal same = refl

-- the law: acceptance is that no refusal applies
pub accepts_unless_refused : (s : State) (t : ℕ) (m : Move)
    → accepts s t m ≡ is_none (refusal_of s t m)
accepts_unless_refused s t m =
    in_lock (nat_lt t (length s.phases)) (may_make s.kind (phase_at s.phases t) m) _
    (may_make_is s.kind (phase_at s.phases t) m)
