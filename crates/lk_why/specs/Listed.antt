-- Definitions. The changes of which a lock has the step.
use Rattle.std.specs.Prelude.{◌≡◌, Some}
use Rattle.lk_locks.specs.invariants.Locks.{IsPhaseOf}
use Rattle.lk_why.specs.Changes.{name_of}
use Rattle.lk_why.specs.Types.{Change, LockKind, Phase}

-- a thread of this lock, beside another one, may be about to take the step
abbrev pub IsOfStep : LockKind → Change → Type 0
IsOfStep kind change =
    (p : Phase) × IsPhaseOf kind 2 p × (name_of p ≡ Some change.step)
