-- Definitions. A lock of which nothing is changed is the lock itself.
use Rattle.std.specs.Prelude.{◌≡◌, ◌↔◌, ℕ, None, true}
use Rattle.lk_locks.specs.Legal.{after_entries}
use Rattle.lk_locks.specs.Steps.{next_state, refusal_of, change_of}
use Rattle.lk_why.specs.Positions.{Position, after, is_due}
use Rattle.lk_why.specs.Types.{Call, Move, Step, StepKind}
use Rattle.lk_why.specs.declared.choice.Action.{Action}
use Rattle.lk_why.specs.declared.choice.Action.TheVariants as action

-- a move of the lock, without the kind of its step
abbrev pub action_of : Move → Action
action_of (Call op) = action.Call op
action_of (Step kind) = action.Step

-- The words, the phases and the entries after each accepted move are the lock's own, and so is the
-- sequential object; and a thread may take a step exactly if the lock accepts one.
pub record IsTheLock (x : Position) (t : ℕ) : Type 0 where
  pub state : (m : Move) → refusal_of x.lock t m ≡ None
      → (after None x t (action_of m)).lock ≡ next_state x.lock t m
  pub sequential : (m : Move) → refusal_of x.lock t m ≡ None
      → (after None x t (action_of m)).sequential
      ≡ after_entries x.sequential (change_of x.lock t m).entries
  pub steps : is_due x t ≡ true ↔ ((kind : StepKind) × (refusal_of x.lock t (Step kind) ≡ None))

abbrev pub AnUnchangedLockIsTheLock : Type 0
AnUnchangedLockIsTheLock = (x : Position) (t : ℕ) → IsTheLock x t
