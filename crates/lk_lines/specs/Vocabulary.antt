-- Definitions: the numbers and the names of a schedule text, and what they mean.
use Rattle.std.specs.Prelude.{ℕ, List, [], ◌∷◌, Option, Some, None, if◌then◌else◌, ◌&&◌, nat_le}
use Rattle.std.specs.Prelude.{codes, find}
use Rattle.std.specs.Str.{bytes_eq}
use Rattle.lk_lines.specs.Digits.{is_plain_number, value_from}
use Rattle.lk_locks.specs.declared.kinds.LockKind.{LockKind}
use Rattle.lk_locks.specs.declared.kinds.LockKind.TheVariants.{Ticket, Mcs, RwSimple, RwFifo}
use Rattle.lk_locks.specs.declared.kinds.Op.TheVariants.{Acquire, Release, ReadLock, ReadUnlock}
use Rattle.lk_locks.specs.declared.kinds.Op.TheVariants.{WriteLock, WriteUnlock, Downgrade}
use Rattle.lk_locks.specs.declared.kinds.StepKind.TheVariants.{Read, Write, Swap, Cas, Add, Section}
use Rattle.lk_locks.specs.declared.kinds.Outcome.{Outcome}
use Rattle.lk_locks.specs.declared.kinds.Outcome.TheVariants.{Called, Moved, Waits, Entered, Left}
use Rattle.lk_locks.specs.declared.kinds.Move.{Move}
use Rattle.lk_locks.specs.declared.kinds.Move.TheVariants.{Call, Step}

-- the number that the text writes, if that is at least `least` and at most `most`
unfoldable pub number_of : ℕ → ℕ → List ℕ → Option ℕ
number_of least most text =
    if is_plain_number text && (nat_le least (value_from 0 text) && nat_le (value_from 0 text) most)
    then Some (value_from 0 text) else None

-- the name of a lock
abbrev pub lock_name : LockKind → List ℕ
lock_name Ticket = codes "ticket"
lock_name Mcs = codes "mcs"
lock_name RwSimple = codes "rw-simple"
lock_name RwFifo = codes "rw-fifo"

-- the lock of that name
unfoldable pub lock_named : List ℕ → Option LockKind
lock_named name =
    find (λ kind. bytes_eq name (lock_name kind)) (Ticket ∷ Mcs ∷ RwSimple ∷ RwFifo ∷ [])

-- the name of a call or a step
abbrev pub move_name : Move → List ℕ
move_name (Call Acquire) = codes "acquire"
move_name (Call Release) = codes "release"
move_name (Call ReadLock) = codes "rlock"
move_name (Call ReadUnlock) = codes "runlock"
move_name (Call WriteLock) = codes "wlock"
move_name (Call WriteUnlock) = codes "wunlock"
move_name (Call Downgrade) = codes "downgrade"
move_name (Step Read) = codes "read"
move_name (Step Write) = codes "write"
move_name (Step Swap) = codes "swap"
move_name (Step Cas) = codes "cas"
move_name (Step Add) = codes "add"
move_name (Step Section) = codes "section"

abbrev pub every_move : List Move
every_move =
    Step Read ∷ Step Section ∷ Step Write ∷ Step Swap ∷ Step Cas ∷ Step Add
    ∷ Call Acquire ∷ Call Release ∷ Call ReadLock ∷ Call ReadUnlock ∷ Call WriteLock
    ∷ Call WriteUnlock ∷ Call Downgrade ∷ []

-- the move of that name
unfoldable pub move_named : List ℕ → Option Move
move_named name = find (λ m. bytes_eq name (move_name m)) every_move

abbrev pub outcome_name : Outcome → List ℕ
outcome_name Called = codes "called"
outcome_name Moved = codes "moved"
outcome_name Waits = codes "waits"
outcome_name Entered = codes "entered"
outcome_name Left = codes "left"

-- the outcome of a step that has this name
unfoldable pub outcome_named : List ℕ → Option Outcome
outcome_named name =
    find (λ o. bytes_eq name (outcome_name o)) (Moved ∷ Waits ∷ Entered ∷ Left ∷ [])
