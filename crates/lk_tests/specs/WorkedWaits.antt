-- Definitions. Runs around a thread that waits, written out: from states to which moves lead, and
-- from states to which a mistake leads. On these the laws of starvation are evaluated.
use Rattle.std.specs.Prelude.{ℕ, List, [], ◌∷◌, ◌++◌}
use Rattle.lk_locks.specs.Progress.{state_after}
use Rattle.lk_locks.specs.State.{State, start_of}
use Rattle.lk_locks.specs.declared.kinds.LockKind.{LockKind}
use Rattle.lk_locks.specs.declared.kinds.LockKind.TheVariants.{Ticket, Mcs, RwSimple, RwFifo}
use Rattle.lk_locks.specs.declared.kinds.Move.{Move}
use Rattle.lk_locks.specs.declared.kinds.Move.TheVariants.{Call, Step}
use Rattle.lk_locks.specs.declared.kinds.Op.{Op}
use Rattle.lk_locks.specs.declared.kinds.Op.TheVariants.{Acquire, Release, ReadLock, ReadUnlock}
use Rattle.lk_locks.specs.declared.kinds.Op.TheVariants.{WriteLock}
use Rattle.lk_locks.specs.declared.kinds.Phase.TheVariants.{Idle, AwaitTurn, AwaitGrant}
use Rattle.lk_locks.specs.declared.kinds.Phase.TheVariants.{AwaitReaders, Reading}
use Rattle.lk_locks.specs.declared.kinds.StepKind.TheVariants.{Read, Write, Swap, Cas, Add, Section}

-- after these moves on a new lock of two threads, or of three
abbrev pub after : LockKind → ℕ → List (ℕ × Move) → State
after kind n ms = state_after (start_of (record { kind = kind; threads = n; bits = 2 })) ms

-- of ticket locks

-- both threads have tickets, and nobody has entered
abbrev pub ticket_waits : State
ticket_waits =
    after Ticket 2 ((0, Call Acquire) ∷ (0, Step Add) ∷ (1, Call Acquire) ∷ (1, Step Add) ∷ [])

-- thread 0 enters, leaves and takes the next ticket
abbrev pub ticket_round : List (ℕ × Move)
ticket_round =
    (0, Step Read) ∷ (0, Call Release) ∷ (0, Step Read) ∷ (0, Step Write)
    ∷ (0, Call Acquire) ∷ (0, Step Add) ∷ []

-- releases went on by two tickets, so that nobody serves thread 1
abbrev pub passed_over : State
passed_over = record {
  kind = Ticket;
  bits = 2;
  words = 3 ∷ 2 ∷ [];
  phases = AwaitTurn 2 ∷ AwaitTurn 1 ∷ [];
}

-- of MCS locks

-- thread 0 has linked itself, and has been granted the lock; thread 1 has swapped after it
abbrev pub mcs_waits : State
mcs_waits =
    after Mcs 2
    ((1, Call Acquire) ∷ (1, Step Write) ∷ (1, Step Swap)
    ∷ (0, Call Acquire) ∷ (0, Step Write) ∷ (0, Step Swap) ∷ (0, Step Write) ∷ (0, Step Write)
    ∷ (1, Call Release) ∷ (1, Step Read) ∷ (1, Step Write)
    ∷ (1, Call Acquire) ∷ (1, Step Write) ∷ (1, Step Swap) ∷ [])

-- thread 0 enters, tries to leave before thread 1 has linked itself, leaves, and comes again
abbrev pub mcs_round : List (ℕ × Move)
mcs_round =
    (0, Step Read) ∷ (0, Call Release) ∷ (0, Step Read) ∷ (0, Step Cas) ∷ (0, Step Read)
    ∷ (1, Step Write) ∷ (1, Step Write) ∷ (0, Step Read) ∷ (0, Step Write)
    ∷ (0, Call Acquire) ∷ (0, Step Write) ∷ (0, Step Swap) ∷ (0, Step Write) ∷ (0, Step Write) ∷ []

-- a release of thread 0 set the tail to nil without a compare-and-swap, after thread 1 had swapped
abbrev pub cut_off : State
cut_off = record {
  kind = Mcs;
  bits = 2;
  words = 0 ∷ 2 ∷ 0 ∷ 0 ∷ 1 ∷ [];
  phases = Idle ∷ AwaitGrant ∷ [];
}

-- thread 0 enters and leaves, alone as it seems
abbrev pub alone : List (ℕ × Move)
alone =
    (0, Call Acquire) ∷ (0, Step Write) ∷ (0, Step Swap)
    ∷ (0, Call Release) ∷ (0, Step Read) ∷ (0, Step Cas) ∷ []

-- of read-write locks

abbrev pub call : ℕ → Op → ℕ × Move
call t op = (t, Call op)

abbrev pub section : ℕ → ℕ × Move
section t = (t, Step Section)

-- thread 0 reads, and writer 1 is announced
abbrev pub fifo_waits : State
fifo_waits =
    after RwFifo 2 (call 0 ReadLock ∷ section 0 ∷ call 1 WriteLock ∷ section 1 ∷ [])

-- reader 0 leaves and comes again, after a poll of the writer
abbrev pub fifo_round : List (ℕ × Move)
fifo_round = section 1 ∷ call 0 ReadUnlock ∷ section 0 ∷ call 0 ReadLock ∷ section 0 ∷ []

-- the writer announced itself and did not set the flag
abbrev pub unflagged : State
unflagged = record {
  kind = RwFifo;
  bits = 2;
  words = 1 ∷ 0 ∷ 0 ∷ [];
  phases = Reading ∷ AwaitReaders ∷ [];
}

-- thread 0 reads, and thread 2 wants to write
abbrev pub writer_waits : State
writer_waits = after RwSimple 3 (call 0 ReadLock ∷ section 0 ∷ call 2 WriteLock ∷ [])

-- reader 1 enters before reader 0 leaves, and the writer polls in vain
abbrev pub handed_on : List (ℕ × Move)
handed_on =
    call 1 ReadLock ∷ section 1 ∷ section 2 ∷ call 0 ReadUnlock ∷ section 0 ∷ section 2 ∷ []
