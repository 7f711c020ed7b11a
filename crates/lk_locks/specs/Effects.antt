-- Definitions. The effect of a step on the words of its lock, told before the step is made; and
-- that a step of a queue lock is one operation on one word.
use Rattle.std.specs.Prelude.{◌≡◌, ◌<◌, ℕ, List, length, slice_index, slice_set, Option, None, Some}
use Rattle.lk_locks.specs.Change.{Change, kind_of}
use Rattle.lk_locks.specs.read_write.{Tells}
use Rattle.lk_locks.specs.Types.{Outcome, StepEffect, OneWord, Monitor, Family, Queue, Move, Call}
use Rattle.lk_locks.specs.Types.{Step, StepKind}
use Rattle.lk_words.specs.Operations.{words_after}
use Rattle.lk_words.specs.declared.operation.Operation.{Operation}
use Rattle.lk_locks.specs.State.{State, phase_at}
use Rattle.lk_locks.specs.Locks.{family_of, operation_of}

abbrev pub outcome_in : StepEffect → Outcome
outcome_in (OneWord effect outcome) = outcome
outcome_in (Monitor section) = section.outcome

-- The effect tells the words and the outcome of a step with this change. An operation changes no
-- word but its own.
abbrev pub IsEffectOf : Change → List ℕ → StepEffect → Type 0
IsEffectOf change before (OneWord effect outcome) =
    ((effect.word < length before) × (effect.found ≡ slice_index before effect.word)
    × (change.words ≡ slice_set before effect.word effect.left)) × (outcome ≡ change.outcome)
IsEffectOf change before (Monitor section) =
    Tells section before change.words × (section.outcome ≡ change.outcome)

-- for a queue lock: this operation is of the kind, and leaves the words `after`
abbrev pub IsMade : Family → ℕ → List ℕ → StepKind → Option Operation → List ℕ → Type 0
IsMade Queue bits ws kind None after = ⊥
IsMade Queue bits ws kind (Some operation) after =
    (kind_of operation ≡ kind) × (words_after bits ws operation ≡ after)
IsMade family bits ws kind operation after = Unit {0}

-- A call leaves the words as they are. A step of a queue lock leaves what its operation leaves. A
-- section of a read-write lock is on all words of its monitor, and is no such operation.
abbrev pub IsOneOperation : State → ℕ → Move → List ℕ → Type 0
IsOneOperation s t (Call op) after = after ≡ s.words
IsOneOperation s t (Step step) after =
    IsMade (family_of s.kind) s.bits s.words step
    (operation_of s.kind s.bits t (phase_at s.phases t)) after
