-- Definitions. Whole steps that are changed: a step whose words stay as they were, and a step that
-- finds a value that is not there. Both are steps of the lock itself, on altered words.
use Rattle.std.specs.Prelude.{ℕ, ◌+◌, ◌==◌, List, [], None, Option, Some, if◌then◌else◌, set}
use Rattle.std.specs.Prelude.{slice_index}
use Rattle.lk_words.specs.Operations.{word_of}
use Rattle.lk_words.specs.declared.operation.Operation.{Operation}
use Rattle.lk_locks.specs.Change.{Change, to}
use Rattle.lk_locks.specs.Locks.{operation_of, step_of}
use Rattle.lk_why.specs.Types.{AwaitTurn, LockKind, Moved, Outcome, Phase, ReadServing, RwFifo}
use Rattle.lk_why.specs.Types.{Waits}
use Rattle.lk_locks.specs.rw_fifo
use Rattle.lk_locks.specs.rw_simple
use Rattle.lk_why.specs.Types.{All, ClearFlag, Counts, Flag, Found, NoReader, Own, Written, Zero}

-- the word of an operation, or word 0 if there is none
abbrev pub word_or_0 : Option Operation → ℕ
word_or_0 None = 0
word_or_0 (Some operation) = word_of operation

-- the flag of a read-write lock
abbrev pub flag_of : LockKind → ℕ
flag_of RwFifo = rw_fifo.flag
flag_of kind = rw_simple.flag

-- the number that is a thread's own in this phase: its ticket, or the number of its record
abbrev pub own : ℕ → Phase → ℕ
own t (AwaitTurn ticket) = ticket
own t (ReadServing ticket) = ticket
own t p = t + 1

-- the words `after`, but some as they were before
abbrev pub unwritten : LockKind → Written → List ℕ → List ℕ → List ℕ
unwritten kind All before after = before
unwritten kind Flag before after = set after (flag_of kind) (slice_index before (flag_of kind))
unwritten kind Counts before after = set before (flag_of kind) (slice_index after (flag_of kind))

-- the step, with some words left as they were
abbrev pub leaving_out : Written → LockKind → ℕ → List ℕ → ℕ → Phase → Change
leaving_out written kind bits ws t p =
    let made : Change = step_of kind bits ws t p in
    to (unwritten kind written ws made.words) made.phase made.outcome made.entries

-- the word that a test looks at, and the value that it is to find there
abbrev pub sight : Found → LockKind → ℕ → List ℕ → ℕ → Phase → ℕ × ℕ
sight Zero kind bits ws t p = (word_or_0 (operation_of kind bits t p), 0)
sight Own kind bits ws t p = (word_or_0 (operation_of kind bits t p), own t p)
sight ClearFlag kind bits ws t p = (flag_of kind, 0)
sight NoReader RwFifo bits ws t p =
    (rw_fifo.read_acquires, slice_index ws rw_fifo.read_releases)
sight NoReader kind bits ws t p = (rw_simple.readers, 0)

-- the words after a step that found `value` in word w: if it left that value, the word is as before
abbrev pub seen_away : ℕ × ℕ → List ℕ → List ℕ → List ℕ
seen_away (w, value) before after =
    if slice_index after w == value then set after w (slice_index before w) else after

-- the step as if it had found this value in this word
abbrev pub finding : ℕ × ℕ → LockKind → ℕ → List ℕ → ℕ → Phase → Change
finding (w, value) kind bits ws t p =
    let made : Change = step_of kind bits (set ws w value) t p in
    to (seen_away (w, value) ws made.words) made.phase made.outcome made.entries

-- a step that would move on waits instead, and writes nothing
abbrev pub waiting_if : Outcome → Change → List ℕ → Phase → Change
waiting_if Moved made ws p = to ws p Waits []
waiting_if outcome made ws p = made

abbrev pub waiting : LockKind → ℕ → List ℕ → ℕ → Phase → Change
waiting kind bits ws t p =
    let made : Change = step_of kind bits ws t p in waiting_if made.outcome made ws p
