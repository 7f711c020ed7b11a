-- Invariants. The distance of a lock from rest: a number that each finishing move lowers.
use Rattle.std.specs.Prelude.{ℕ}
use Rattle.std.specs.List.{sum_by}
use Rattle.lk_locks.specs.State.{State}
use Rattle.lk_locks.specs.Types.{LockKind, RwSimple, Phase, Idle, TakeTicket, AwaitTurn}
use Rattle.lk_locks.specs.Types.{TicketInside, ReadServing, ClearNext, SwapTail, SetLocked, LinkTo}
use Rattle.lk_locks.specs.Types.{AwaitGrant, McsInside, ReadNext, CasTail, AwaitLink, TryRead}
use Rattle.lk_locks.specs.Types.{Reading, TryWrite, AwaitReaders, Writing, TryDowngrade}

-- The length of the longest way from this phase to idle, through the steps and calls of the lock,
-- without failed polls. The phases in the last line are before the last step of a release.
abbrev pub distance : LockKind → Phase → ℕ
distance kind Idle = 0
distance kind TakeTicket = 5
distance kind (AwaitTurn t) = 4
distance kind (TicketInside t) = 3
distance kind (ReadServing t) = 2
distance kind ClearNext = 10
distance kind SwapTail = 9
distance kind (SetLocked j) = 8
distance kind (LinkTo j) = 7
distance kind AwaitGrant = 6
distance kind McsInside = 5
distance kind ReadNext = 4
distance kind CasTail = 3
distance kind AwaitLink = 2
distance RwSimple TryWrite = 5
distance kind TryWrite = 6
distance kind AwaitReaders = 5
distance kind Writing = 4
distance kind TryDowngrade = 3
distance kind TryRead = 3
distance kind Reading = 2
distance kind p = 1

-- of all threads together
abbrev pub distance_of : State → ℕ
distance_of s = sum_by (distance s.kind) s.phases
