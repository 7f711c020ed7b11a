-- Definitions. Histories written out, and moves that lead to some of them. On these the laws are
-- evaluated: each holds of histories that are as they should be, and fails of one that is not.
use Rattle.std.specs.Prelude.{◌≡◌, ℕ, List, [], ◌∷◌, ◌++◌, Some}
use Rattle.lk_locks.specs.MainTheorem.{IsAsPromised}
use Rattle.lk_locks.specs.Sequential.{Sequential, after_acts, nobody}
use Rattle.lk_locks.specs.declared.kinds.LockKind.{LockKind}
use Rattle.lk_locks.specs.declared.kinds.Op.TheVariants.{Acquire, Release, ReadLock, ReadUnlock}
use Rattle.lk_locks.specs.declared.kinds.Op.TheVariants.{WriteLock, WriteUnlock, Downgrade}
use Rattle.lk_locks.specs.declared.kinds.StepKind.TheVariants.{Read, Write, Swap, Add, Section}
use Rattle.lk_locks.specs.declared.kinds.Move.{Move}
use Rattle.lk_locks.specs.declared.kinds.Move.TheVariants.{Call, Step}
use Rattle.lk_locks.specs.declared.kinds.Entry.{Entry}
use Rattle.lk_locks.specs.declared.kinds.Entry.TheVariants.{Called, Announced, Acted, Returned}

-- of queue locks

-- thread 0 is inside, and thread 1 has asked
abbrev pub one_inside : List Entry
one_inside =
    Called 0 Acquire ∷ Acted 0 Acquire ∷ Returned 0 Acquire
    ∷ Called 1 Acquire ∷ Acted 1 Acquire ∷ []

-- thread 0 has left
abbrev pub left_free : List Entry
left_free = one_inside ++ Called 0 Release ∷ Acted 0 Release ∷ Returned 0 Release ∷ []

-- thread 1 has entered
abbrev pub handover : List Entry
handover = left_free ++ Returned 1 Acquire ∷ []

-- a thread enters beside another one, or once more
abbrev pub enters : ℕ → List Entry
enters t = Called t Acquire ∷ Acted t Acquire ∷ Returned t Acquire ∷ []

abbrev pub two_inside : ℕ → ℕ → List Entry
two_inside t u = enters t ++ enters u

-- thread 1 enters before thread 0, which asked before it
abbrev pub overtaking : List Entry
overtaking =
    Called 0 Acquire ∷ Acted 0 Acquire
    ∷ Called 1 Acquire ∷ Acted 1 Acquire ∷ Returned 1 Acquire ∷ []

-- thread 1 releases what thread 0 holds
abbrev pub released_by_another : List Entry
released_by_another =
    Called 0 Acquire ∷ Acted 0 Acquire ∷ Returned 0 Acquire
    ∷ Called 1 Release ∷ Acted 1 Release ∷ []

-- thread 0 enters, and never asked
abbrev pub entry_without_act : List Entry
entry_without_act = Called 0 Acquire ∷ Returned 0 Acquire ∷ []

-- thread 0 asks twice in one call
abbrev pub asked_twice : List Entry
asked_twice = Called 0 Acquire ∷ Acted 0 Acquire ∷ Acted 0 Acquire ∷ Returned 0 Acquire ∷ []

-- thread 0 asks, and never called
abbrev pub act_without_call : List Entry
act_without_call = Acted 0 Acquire ∷ []

-- of read-write locks

-- a whole call that acts and returns at once
abbrev pub reads : ℕ → List Entry
reads t = Called t ReadLock ∷ Acted t ReadLock ∷ Returned t ReadLock ∷ []

abbrev pub unreads : ℕ → List Entry
unreads t = Called t ReadUnlock ∷ Acted t ReadUnlock ∷ Returned t ReadUnlock ∷ []

abbrev pub writes : ℕ → List Entry
writes t = Called t WriteLock ∷ Acted t WriteLock ∷ Returned t WriteLock ∷ []

abbrev pub unwrites : ℕ → List Entry
unwrites t = Called t WriteUnlock ∷ Acted t WriteUnlock ∷ Returned t WriteUnlock ∷ []

abbrev pub downgrades : ℕ → List Entry
downgrades t = Called t Downgrade ∷ Acted t Downgrade ∷ Returned t Downgrade ∷ []

-- thread 0 writes, then reads, and thread 1 reads and then writes
abbrev pub two_readers : List Entry
two_readers = writes 0 ++ downgrades 0 ++ reads 1

abbrev pub writers_in_turn : List Entry
writers_in_turn = two_readers ++ unreads 0 ++ unreads 1 ++ writes 1

-- thread u comes in beside thread t, which writes, reads, or wrote and reads
abbrev pub two_writers : ℕ → ℕ → List Entry
two_writers t u = writes t ++ writes u

abbrev pub reader_beside_writer : ℕ → ℕ → List Entry
reader_beside_writer t u = writes t ++ reads u

abbrev pub writer_beside_reader : ℕ → ℕ → List Entry
writer_beside_reader t u = reads t ++ writes u

abbrev pub writer_beside_downgraded : ℕ → ℕ → List Entry
writer_beside_downgraded t u = writes t ++ downgrades t ++ writes u

-- thread 1 unlocks what thread 0 writes, and thread 2 reads
abbrev pub unlocked_by_another : List Entry
unlocked_by_another = writes 0 ++ unwrites 1 ++ reads 2

-- thread 0 reads twice and leaves once, and thread 1 writes
abbrev pub left_once : List Entry
left_once = reads 0 ++ reads 0 ++ unreads 0 ++ writes 1

-- a FIFO writer is announced while thread 0 reads, and enters when that has left
abbrev pub announcement : List Entry
announcement = reads 0 ++ Called 1 WriteLock ∷ Announced 1 ∷ []

abbrev pub announced_entered : List Entry
announced_entered = announcement ++ unreads 0 ++ Acted 1 WriteLock ∷ Returned 1 WriteLock ∷ []

-- a reader, and a writer, that does not wait for an announced one
abbrev pub reader_passes : List Entry
reader_passes = announcement ++ reads 2

abbrev pub writer_passes : List Entry
writer_passes = announcement ++ Called 2 WriteLock ∷ Announced 2 ∷ []

-- the theorem about a history

-- it says this of every history that is as promised
abbrev pub OfEachPromised : (LockKind → ℕ → List Entry → Type 0) → Type 0
OfEachPromised Holds =
    (kind : LockKind) (n : ℕ) (es : List Entry) → IsAsPromised kind n es → Holds kind n es

-- after each prefix of the history the acts, allowed or not, leave no reader beside a writer
abbrev pub WritesAlone : LockKind → List Entry → Type 0
WritesAlone kind es =
    (before after : List Entry) → es ≡ before ++ after
    → let now : Sequential = after_acts (nobody kind) before in
    (w : ℕ) → now.writer ≡ Some w → now.readers ≡ []

-- moves: those that are refused leave no entry

abbrev pub ticket_moves : List (ℕ × Move)
ticket_moves =
    (0, Call Acquire) ∷ (0, Step Add) ∷ (0, Step Read) ∷ (0, Step Read) ∷ (0, Call Acquire)
    ∷ (1, Call Acquire) ∷ (1, Step Add) ∷ (1, Step Read) ∷ (1, Call Release) ∷ (0, Call Release)
    ∷ (0, Step Read) ∷ (0, Step Write) ∷ (2, Call Acquire) ∷ (1, Step Read) ∷ []

abbrev pub mcs_moves : List (ℕ × Move)
mcs_moves =
    (0, Call Acquire) ∷ (0, Step Write) ∷ (0, Step Swap) ∷ (1, Call Acquire) ∷ (1, Step Add)
    ∷ (1, Step Write) ∷ (1, Step Swap) ∷ (1, Step Write) ∷ (1, Step Write) ∷ (1, Step Read)
    ∷ (0, Call Release) ∷ (0, Step Read) ∷ (0, Step Write) ∷ (1, Step Read) ∷ []

abbrev pub simple_moves : List (ℕ × Move)
simple_moves =
    (0, Call WriteLock) ∷ (0, Step Section) ∷ (0, Call Downgrade) ∷ (0, Step Section)
    ∷ (0, Call WriteUnlock) ∷ (1, Call ReadLock) ∷ (1, Step Section) ∷ (1, Step Section) ∷ []

abbrev pub fifo_moves : List (ℕ × Move)
fifo_moves =
    (0, Call ReadLock) ∷ (0, Step Section) ∷ (1, Call WriteLock) ∷ (1, Step Section)
    ∷ (1, Step Section) ∷ (0, Call ReadUnlock) ∷ (0, Step Section) ∷ (1, Step Section) ∷ []
