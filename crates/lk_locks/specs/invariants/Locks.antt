-- Invariants. The definitions of each lock's module for its phases, its words, and the entries that
-- a pending call has still to add.
use Rattle.std.specs.Prelude.{ℕ, List, IsTrue}
use Rattle.lk_locks.specs.Locks.{family_of}
use Rattle.lk_locks.specs.State.{State}
use Rattle.lk_locks.specs.Sequential.{Sequential}
use Rattle.lk_locks.specs.invariants.ticket
use Rattle.lk_locks.specs.invariants.mcs
use Rattle.lk_locks.specs.invariants.read_write
use Rattle.lk_locks.specs.invariants.rw_simple
use Rattle.lk_locks.specs.invariants.rw_fifo
use Rattle.lk_locks.specs.Types.{LockKind, Ticket, Mcs, RwSimple, RwFifo, Phase, Entry}

-- a phase of this lock, with n threads
abbrev pub IsPhaseOf : LockKind → ℕ → Phase → Type 0
IsPhaseOf Ticket n p = IsTrue (ticket.is_phase p)
IsPhaseOf Mcs n p = mcs.IsPhase n p
IsPhaseOf RwSimple n p = IsTrue (rw_simple.is_phase p)
IsPhaseOf RwFifo n p = IsTrue (rw_fifo.is_phase p)

-- each word that names a thread names one of the n, or none
abbrev pub AreLinks : LockKind → ℕ → List ℕ → Type 0
AreLinks Mcs n ws = mcs.AreLinks n ws
AreLinks kind n ws = Unit {0}

-- the entries that the pending call of thread t has still to add to the history
abbrev pub owed_of : LockKind → ℕ → Phase → List Entry
owed_of Ticket t p = ticket.owed_of t p
owed_of Mcs t p = mcs.owed_of t p
owed_of kind t p = read_write.owed_of (family_of kind) t p

-- the words and phases of the lock agree with its sequential object
abbrev pub AgreeAs : LockKind → State → Sequential → Type 0
AgreeAs Ticket s q = ticket.IsQueue s.bits s.words s.phases q.queue
AgreeAs Mcs s q = mcs.IsQueue s.words s.phases q.queue
AgreeAs RwSimple s q = rw_simple.AgreesWith s.bits s.words s.phases q
AgreeAs RwFifo s q = rw_fifo.AgreesWith s.bits s.words s.phases q
