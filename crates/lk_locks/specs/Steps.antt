-- Definitions. The moves that are accepted, the change that an accepted move makes and the entries
-- that it adds, one by one and in lists. This file knows no lock: `Locks` has the differences.
use Rattle.std.specs.Prelude.{ℕ, List, length, set, Option, None, Some, is_some, is_none, unwrap_or}
use Rattle.std.specs.Prelude.{Bool, true, false, nat_lt, if◌then◌else◌, Result, Ok, Err, [], ◌∷◌}
use Rattle.std.specs.Prelude.{◌++◌, ◌&&◌}
use Rattle.std.specs.List.{list_any}
use Rattle.std.specs.Option.{option_eq}
use denote.Enum.Bare.{sameb}
use Rattle.lk_locks.specs.contracts.kinds.StepKind.{the_type}
use Rattle.lk_locks.specs.Change.{Change, to}
use Rattle.lk_locks.specs.State.{State, phase_at}
use Rattle.lk_locks.specs.Locks.{family_of, steps_of, after_call, step_due, step_of}
use Rattle.lk_locks.specs.Types.{LockKind, Family, Queue, Phase, Idle, Op, Acquire, Release}
use Rattle.lk_locks.specs.Types.{StepKind, Move, Call, Step, Outcome, Called, Refusal, NoSuchThread}
use Rattle.lk_locks.specs.Types.{WrongLock, Busy, NotHolder, AlreadyHolds, NoCall, WrongStep, Entry}
use Rattle.lk_locks.specs.declared.kinds.Entry.TheVariants as entry

-- a queue lock has acquire and release, and a read-write lock the others
abbrev pub has_op : Family → Op → Bool
has_op Queue Acquire = true
has_op Queue Release = true
has_op Queue op = false
has_op family Acquire = false
has_op family Release = false
has_op family op = true

-- refusals

abbrev pub same_step : StepKind → StepKind → Bool
same_step = sameb the_type

abbrev pub belongs : LockKind → Move → Bool
belongs kind (Call op) = has_op (family_of kind) op
belongs kind (Step step) = list_any (same_step step) (steps_of kind)

-- The refusal of a move of a thread in this phase, by the step that it is due to take. A call that
-- an idle thread may make acquires; a thread that is not idle and has no pending call holds the
-- lock.
abbrev pub refusal_at : LockKind → Phase → Option StepKind → Move → Option Refusal
refusal_at kind p None (Call op) =
    if is_some (after_call kind p op)
    then None
    else (if is_some (after_call kind Idle op) then Some AlreadyHolds else Some NotHolder)
refusal_at kind p (Some next) (Call op) = Some Busy
refusal_at kind p None (Step step) = Some NoCall
refusal_at kind p (Some next) (Step s) = if same_step next s then None else Some (WrongStep next)

abbrev pub refusal_in : LockKind → Phase → Move → Option Refusal
refusal_in kind p m = refusal_at kind p (step_due kind p) m

-- the first refusal that applies to a move of thread t
abbrev pub refusal_of : State → ℕ → Move → Option Refusal
refusal_of s t m =
    if nat_lt t (length s.phases)
    then (if belongs s.kind m then refusal_in s.kind (phase_at s.phases t) m else Some WrongLock)
    else Some NoSuchThread

-- Acceptance, without the reasons of refusals: `refusal_of` gives none of exactly these moves, as a
-- law of `theorems` says.

-- a thread in this phase may make the call, or is due to take the step
abbrev pub may_make : LockKind → Phase → Move → Bool
may_make kind p (Call op) = is_some (after_call kind p op)
may_make kind p (Step step) = option_eq same_step (Some step) (step_due kind p)

abbrev pub accepts : State → ℕ → Move → Bool
accepts s t m = nat_lt t (length s.phases) && may_make s.kind (phase_at s.phases t) m

-- the change that an accepted move makes

abbrev pub move_change : LockKind → ℕ → List ℕ → ℕ → Phase → Move → Change
move_change kind bits ws t p (Call op) =
    to ws (unwrap_or (after_call kind p op) p) Called (entry.Called t op ∷ [])
move_change kind bits ws t p (Step step) = step_of kind bits ws t p

abbrev pub change_of : State → ℕ → Move → Change
change_of s t m = move_change s.kind s.bits s.words t (phase_at s.phases t) m

abbrev pub next_state : State → ℕ → Move → State
next_state s t m =
    let c : Change = change_of s t m in
    record s { words = c.words; phases = set s.phases t c.phase }

-- the answer to a move, and the state after it: a refused move changes nothing

abbrev pub answer_unless : Option Refusal → Outcome → Result Outcome Refusal
answer_unless None o = Ok o
answer_unless (Some r) o = Err r

abbrev pub answer_to : State → ℕ → Move → Result Outcome Refusal
answer_to s t m = answer_unless (refusal_of s t m) (change_of s t m).outcome

-- the refusal in an answer
abbrev pub refused_with : {A : Type 0} → Result A Refusal → Option Refusal
refused_with (Ok o) = None
refused_with (Err r) = Some r

abbrev pub after_move : State → ℕ → Move → State
after_move s t m = if is_none (refusal_of s t m) then next_state s t m else s

-- the entries of moves one after another. A refused move has none, and changes nothing
abbrev pub entries_after : State → List (ℕ × Move) → List Entry
entries_after s [] = []
entries_after s (m ∷ ms) =
    if accepts s m.0 m.1
    then (change_of s m.0 m.1).entries ++ entries_after (next_state s m.0 m.1) ms
    else entries_after s ms
