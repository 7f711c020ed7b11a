-- Definitions. The definitions of each lock's module, by the kind of the lock, and the family of
-- each kind. Definitions that the locks share use these, and know no lock.
use Rattle.std.specs.Prelude.{ℕ, ◌+◌, ◌*◌, List, [], ◌∷◌, Option, None, option_map}
use Rattle.lk_words.specs.Operations.{effect_on}
use Rattle.lk_words.specs.declared.operation.Operation.{Operation}
use Rattle.lk_locks.specs.Change.{Change, kind_of, step_by}
use Rattle.lk_locks.specs.ticket
use Rattle.lk_locks.specs.mcs
use Rattle.lk_locks.specs.read_write
use Rattle.lk_locks.specs.rw_simple
use Rattle.lk_locks.specs.rw_fifo
use Rattle.lk_locks.specs.Types.{LockKind, Ticket, Mcs, RwSimple, RwFifo, Family, Queue, ReadWrite}
use Rattle.lk_locks.specs.Types.{FifoReadWrite, Phase, Op, StepKind, Read, Write, Swap, Cas, Add}
use Rattle.lk_locks.specs.Types.{Section, StepEffect, OneWord, Monitor}

abbrev pub family_of : LockKind → Family
family_of Ticket = Queue
family_of Mcs = Queue
family_of RwSimple = ReadWrite
family_of RwFifo = FifoReadWrite

-- the number of words of a lock of this kind
abbrev pub word_count : LockKind → ℕ → ℕ
word_count Ticket threads = 2
word_count Mcs threads = 1 + 2 * threads
word_count RwSimple threads = 2
word_count RwFifo threads = 3

abbrev pub steps_of : LockKind → List StepKind
steps_of Ticket = Add ∷ Read ∷ Write ∷ []
steps_of Mcs = Read ∷ Write ∷ Swap ∷ Cas ∷ []
steps_of kind = Section ∷ []

-- the phase that a call leads to, if a thread in this phase may make it
abbrev pub after_call : LockKind → Phase → Op → Option Phase
after_call Ticket p op = ticket.after_call p op
after_call Mcs p op = mcs.after_call p op
after_call kind p op = read_write.after_call p op

-- The next operation of thread t in this phase, if its next step is one operation on one word. A
-- section of a read-write lock is on all words of its monitor.
abbrev pub operation_of : LockKind → ℕ → ℕ → Phase → Option Operation
operation_of Ticket bits t p = ticket.operation bits p
operation_of Mcs bits t p = mcs.operation t p
operation_of kind bits t p = None

-- The step that a thread in this phase takes next. There is none if it has no pending call. Its
-- kind depends on neither thread nor bits.
abbrev pub step_due : LockKind → Phase → Option StepKind
step_due Ticket p = option_map kind_of (ticket.operation 64 p)
step_due Mcs p = option_map kind_of (mcs.operation 0 p)
step_due kind p = read_write.step_due p

-- a step of thread t in this phase
abbrev pub step_of : LockKind → ℕ → List ℕ → ℕ → Phase → Change
step_of Ticket bits ws t p = step_by (ticket.after t) bits ws p (ticket.operation bits p)
step_of Mcs bits ws t p = step_by (mcs.after t) bits ws p (mcs.operation t p)
step_of RwSimple bits ws t p = rw_simple.step bits ws t p
step_of RwFifo bits ws t p = rw_fifo.step bits ws t p

-- the effect that the next step of thread t in this phase would have, if it has one
abbrev pub effect_of : LockKind → ℕ → List ℕ → ℕ → Phase → Option StepEffect
effect_of Ticket bits ws t p =
    option_map (λ o. OneWord (effect_on bits ws o) (step_of Ticket bits ws t p).outcome)
    (ticket.operation bits p)
effect_of Mcs bits ws t p =
    option_map (λ o. OneWord (effect_on bits ws o) (step_of Mcs bits ws t p).outcome)
    (mcs.operation t p)
effect_of kind bits ws t p =
    option_map (λ due. Monitor (read_write.effect (family_of kind) bits ws t p))
    (read_write.step_due p)
