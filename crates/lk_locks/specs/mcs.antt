-- Definitions. The MCS queue lock: its words, its calls, and its steps with their history entries.
--
-- Mellor-Crummey and Scott, "Algorithms for Scalable Synchronization on Shared-Memory
-- Multiprocessors", ACM TOCS 9(1), 1991, section 2.4, with the release that has compare-and-swap.
-- Different here: each thread has one record, and thread i's is record i + 1, so that 0 is nil; the
-- last write of a release uses the successor that was read last, without reading it again.
use Rattle.std.specs.Prelude.{ℕ, ◌+◌, ◌-◌, ◌*◌, ◌==◌, List, [], ◌∷◌, Option, None, Some, true}
use Rattle.std.specs.Prelude.{false, if◌then◌else◌}
use Rattle.lk_words.specs.declared.operation.Operation.{Operation}
use Rattle.lk_words.specs.declared.operation.Operation.TheVariants.{Read, Write, Swap}
use Rattle.lk_words.specs.declared.operation.Operation.TheVariants.{CompareAndSwap}
use Rattle.lk_words.specs.declared.operation.Answer.{Answer}
use Rattle.lk_words.specs.declared.operation.Answer.TheVariants.{Found, Swapped}
use Rattle.lk_locks.specs.Change.{Change, acts, to}
use Rattle.lk_locks.specs.Types.{ClearNext, SwapTail, SetLocked, AwaitGrant, McsInside, AwaitLink}
use Rattle.lk_locks.specs.Types.{ReadNext, CasTail, Acquire, Release, Entered, Returned, Acted}
use Rattle.lk_locks.specs.Types.{Phase, Idle, LinkTo, Grant, Op, Moved, Waits, Left}

-- The index of each word: `tail` names the last thread of the queue, or is nil; thread i's `next`
-- names its successor, and its `locked` is 1 while it has to wait.
abbrev pub tail : ℕ
tail = 0

abbrev pub next : ℕ → ℕ
next i = 1 + 2 * i

abbrev pub locked : ℕ → ℕ
locked i = 2 + 2 * i

-- the calls that a thread in this phase may make, and the phases to which they lead
abbrev pub after_call : Phase → Op → Option Phase
after_call Idle Acquire = Some ClearNext
after_call McsInside Release = Some ReadNext
after_call p op = None

-- the next operation of thread i in this phase
abbrev pub operation : ℕ → Phase → Option Operation
operation i ClearNext = Some (Write (next i) 0)
operation i SwapTail = Some (Swap tail (i + 1))
operation i (SetLocked j) = Some (Write (locked i) 1)
operation i (LinkTo j) = Some (Write (next j) (i + 1))
operation i AwaitGrant = Some (Read (locked i))
operation i ReadNext = Some (Read (next i))
operation i CasTail = Some (CompareAndSwap tail (i + 1) 0)
operation i AwaitLink = Some (Read (next i))
operation i (Grant j) = Some (Write (locked j) 0)
operation i p = None

-- if the read found a successor, the thread's next step grants it the lock
abbrev pub grant_or : ℕ → List ℕ → Change → Change
grant_or found ws otherwise = if found == 0 then otherwise else to ws (Grant (found - 1)) Moved []

-- The change of a step of thread i, by the answer of its operation, which leaves the words `ws`. An
-- acquire acts at its swap, and returns when it enters: at the swap if that found nil, otherwise at
-- the read that finds `locked` 0. A release acts and returns at its last step.
abbrev pub after : ℕ → Phase → Answer → List ℕ → Change
after i ClearNext answer ws = to ws SwapTail Moved []
after i SwapTail (Found p) ws =
    if p == 0 then to ws McsInside Entered (acts i Acquire)
    else to ws (SetLocked (p - 1)) Moved (Acted i Acquire ∷ [])
after i (SetLocked j) answer ws = to ws (LinkTo j) Moved []
after i (LinkTo j) answer ws = to ws AwaitGrant Moved []
after i AwaitGrant (Found l) ws =
    if l == 0 then to ws McsInside Entered (Returned i Acquire ∷ []) else to ws AwaitGrant Waits []
after i ReadNext (Found s) ws = grant_or s ws (to ws CasTail Moved [])
after i CasTail (Swapped true) ws = to ws Idle Left (acts i Release)
after i CasTail (Swapped false) ws = to ws AwaitLink Moved []
after i AwaitLink (Found s) ws = grant_or s ws (to ws AwaitLink Waits [])
after i (Grant j) answer ws = to ws Idle Left (acts i Release)
after i p answer ws = to ws p Waits []
