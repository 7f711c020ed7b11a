-- A lock of which nothing is changed is the lock itself.
use Rattle.std.proofs.Common.{◌≡◌, ℕ, Bool, None, Option, Some, is_some, length}
use Rattle.std.proofs.Common.{◌<◌, refl, true}
use Rattle.std.proofs.lemmas.Bool.{and_parts, lt-ltb, ltb-true}
use Rattle.lk_locks.specs.Legal.{after_entries}
use Rattle.lk_locks.specs.Locks.{step_due}
use Rattle.lk_locks.specs.State.{State, phase_at}
use Rattle.lk_locks.specs.Steps.{belongs, next_state, refusal_at, refusal_of, change_of}
use Rattle.lk_locks.proofs.Moves.{accepted_of}
use Rattle.lk_why.specs.Positions.{Position, after, is_due}
use Rattle.lk_why.specs.Types.{Add, Call, Idle, LockKind, Mcs, Move, Phase, RwFifo, RwSimple}
use Rattle.lk_why.specs.Types.{Step, StepKind, Ticket}
use Rattle.lk_why.specs.Unchanged.{IsTheLock, action_of}

-- this step, if there is one, is one of the lock's
abbrev is_own : LockKind → Option StepKind → Bool
is_own kind None = true
is_own kind (Some k) = belongs kind (Step k)

-- the step that is due is
due_is_own : (kind : LockKind) (p : Phase) → is_own kind (step_due kind p) ≡ true
due_is_own Ticket Idle = refl
due_is_own Ticket p = refl
due_is_own Mcs Idle = refl
due_is_own Mcs p = refl
due_is_own RwSimple Idle = refl
due_is_own RwSimple p = refl
due_is_own RwFifo Idle = refl
due_is_own RwFifo p = refl

due_belongs : (kind : LockKind) (p : Phase) (k : StepKind) → step_due kind p ≡ Some k
    → belongs kind (Step k) ≡ true
due_belongs kind p k due = rw due at (due_is_own kind p)

-- and it is not refused
due_fits : (kind : LockKind) (p : Phase) (k : StepKind)
    → refusal_at kind p (Some k) (Step k) ≡ None
due_fits kind p Add = refl
due_fits kind p k = refl

-- so the lock accepts it
pub due_accepted : (s : State) (t : ℕ) (k : StepKind) → t < length s.phases
    → step_due s.kind (phase_at s.phases t) ≡ Some k → refusal_of s t (Step k) ≡ None
due_accepted s t k h due =
    rw (
      lt-ltb t (length s.phases) h,
      due_belongs s.kind (phase_at s.phases t) k due,
      due,
    ) (due_fits s.kind (phase_at s.phases t) k)

some_due : (x : Position) (t : ℕ) (due : Option StepKind)
    → step_due x.lock.kind (phase_at x.lock.phases t) ≡ due → t < length x.lock.phases
    → is_some due ≡ true → (kind : StepKind) × (refusal_of x.lock t (Step kind) ≡ None)
some_due x t None same h some = absurd (cc)
some_due x t (Some k) same h some = (k, due_accepted x.lock t k h same)

-- a step that is not refused is due
is_due_at : (kind : LockKind) (p : Phase) (due : Option StepKind) (k : StepKind)
    → refusal_at kind p due (Step k) ≡ None → is_some due ≡ true
is_due_at kind p None k r = absurd (cc)
is_due_at kind p (Some next) k r = refl

accepted_due : (x : Position) (t : ℕ) (k : StepKind) → refusal_of x.lock t (Step k) ≡ None
    → is_due x t ≡ true
accepted_due x t k r =
    let accepted = accepted_of x.lock t (Step k) r in
    rw (
      lt-ltb t (length x.lock.phases) accepted.thread,
      is_due_at x.lock.kind (phase_at x.lock.phases t) _ k accepted.fits,
    ) refl

same_state : (x : Position) (t : ℕ) (m : Move)
    → (after None x t (action_of m)).lock ≡ next_state x.lock t m
same_state x t (Call op) = refl
same_state x t (Step k) = refl

same_sequential : (x : Position) (t : ℕ) (m : Move)
    → (after None x t (action_of m)).sequential
    ≡ after_entries x.sequential (change_of x.lock t m).entries
same_sequential x t (Call op) = refl
same_sequential x t (Step k) = refl

pub is_the_lock : (x : Position) (t : ℕ) → IsTheLock x t
is_the_lock x t = record {
  state = λ m r. same_state x t m;
  sequential = λ m r. same_sequential x t m;
  steps = (
    λ due.
        let (within, some) = and_parts _ _ due in
        some_due x t _ refl (ltb-true t (length x.lock.phases) within) some,
    λ accepted. accepted_due x t accepted.0 accepted.1,
  );
}
