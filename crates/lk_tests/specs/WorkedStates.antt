-- Definitions. Moves, and states of locks written out: those to which moves lead, and those to
-- which a mistake leads. On these the law that no run is stuck is evaluated.
use Rattle.std.specs.Prelude.{ℕ, List, [], ◌∷◌, ◌++◌}
use Rattle.lk_locks.specs.State.{State, start_of}
use Rattle.lk_tests.specs.WorkedHistories.{announcement, reads, unreads}
use Rattle.lk_locks.specs.declared.kinds.LockKind.{LockKind}
use Rattle.lk_locks.specs.declared.kinds.LockKind.TheVariants.{Ticket, Mcs, RwSimple, RwFifo}
use Rattle.lk_locks.specs.declared.kinds.Move.{Move}
use Rattle.lk_locks.specs.declared.kinds.Move.TheVariants.{Call, Step}
use Rattle.lk_locks.specs.declared.kinds.Op.TheVariants.{Acquire, Release, WriteLock}
use Rattle.lk_locks.specs.declared.kinds.Entry.{Entry}
use Rattle.lk_locks.specs.declared.kinds.Entry.TheVariants.{Called}
use Rattle.lk_locks.specs.declared.kinds.Phase.TheVariants.{Idle, AwaitTurn, AwaitGrant, AwaitLink}
use Rattle.lk_locks.specs.declared.kinds.Phase.TheVariants.{CasTail, SetLocked, TryWrite}
use Rattle.lk_locks.specs.declared.kinds.StepKind.TheVariants.{Read, Write, Swap, Cas}

-- a new lock of two threads
abbrev pub new : LockKind → State
new kind = start_of (record { kind = kind; threads = 2; bits = 2 })

-- of an MCS lock, whose words are the tail, and `next` and `locked` of each thread

-- thread 0 is inside, thread 1 swaps the tail, and thread 0 releases before the link is there
abbrev pub entering : List (ℕ × Move)
entering =
    (0, Call Acquire) ∷ (0, Step Write) ∷ (0, Step Swap)
    ∷ (1, Call Acquire) ∷ (1, Step Write) ∷ (1, Step Swap) ∷ []

abbrev pub releasing : List (ℕ × Move)
releasing = (0, Call Release) ∷ (0, Step Read) ∷ (0, Step Cas) ∷ []

-- thread 0 awaits the link of thread 1, which writes it two steps later
abbrev pub late_link : State
late_link = record {
  kind = Mcs;
  bits = 2;
  words = 2 ∷ 0 ∷ 0 ∷ 0 ∷ 0 ∷ [];
  phases = AwaitLink ∷ SetLocked 0 ∷ [];
}

-- from there to rest
abbrev pub finishing : List (ℕ × Move)
finishing =
    (1, Step Write) ∷ (1, Step Write) ∷ (0, Step Read) ∷ (0, Step Write)
    ∷ (1, Step Read) ∷ (1, Call Release) ∷ (1, Step Read) ∷ (1, Step Cas) ∷ []

-- The same release, if it went on with its compare-and-swap and did not read its link first: right,
-- since the compare-and-swap finds out more.
abbrev pub unread_link : State
unread_link = record late_link { phases = CasTail ∷ SetLocked 0 ∷ [] }

-- Thread 1 waits for a grant that does not come. Thread 0 returned after its compare-and-swap had
-- failed; or thread 1 linked itself first, was granted the lock, and then set its `locked`.
abbrev pub not_granted : State
not_granted = record late_link {
  words = 2 ∷ 2 ∷ 0 ∷ 0 ∷ 1 ∷ [];
  phases = Idle ∷ AwaitGrant ∷ [];
}

-- thread 1 went on without writing its link
abbrev pub not_linked : State
not_linked = record late_link {
  words = 2 ∷ 0 ∷ 0 ∷ 0 ∷ 1 ∷ [];
  phases = AwaitLink ∷ AwaitGrant ∷ [];
}

-- of the other locks, with the history that leads there

-- a release of thread 0 wrote the number that it had read, and not the next one
abbrev pub not_passed_on : State
not_passed_on = record {
  kind = Ticket;
  bits = 2;
  words = 2 ∷ 0 ∷ [];
  phases = Idle ∷ AwaitTurn 1 ∷ [];
}

-- reader 0 left, and the count of the readers stayed; thread 1 calls
abbrev pub read_left : List Entry
read_left = reads 0 ++ unreads 0 ++ Called 1 WriteLock ∷ []

abbrev pub still_counted : State
still_counted = record {
  kind = RwSimple;
  bits = 2;
  words = 1 ∷ 0 ∷ [];
  phases = Idle ∷ TryWrite ∷ [];
}

-- Writer 1 set the flag while thread 0 read, and waits until the flag is clear, as before it set
-- it. Reader 0 has left.
abbrev pub announced_left : List Entry
announced_left = announcement ++ unreads 0

abbrev pub own_flag : State
own_flag = record {
  kind = RwFifo;
  bits = 2;
  words = 1 ∷ 1 ∷ 1 ∷ [];
  phases = Idle ∷ TryWrite ∷ [];
}
