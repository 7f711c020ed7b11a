-- Ways in which a thread can go on, and what each lock has to show of them.
use Rattle.std.proofs.Common.{arith, false, inl, inr, length, refl, sym, true, List, None, Option}
use Rattle.std.proofs.Common.{Some, nat_lt, ℕ, ◌<◌, ◌∙◌, ◌≡◌, ◌≢◌}
use Rattle.std.proofs.lemmas.Bool.{and_from, and_parts, cases_lt, false≢true, lt-ltb, ltb-true}
use Rattle.std.specs.Option.{option_eq}
use Rattle.std.proofs.lemmas.List.{get_or_past}
use Rattle.lk_locks.specs.Progress.{CanFinish, IsAtRest, IsFinishing, is_acquiring, is_wait}
use Rattle.lk_locks.specs.State.{State, phase_at}
use Rattle.lk_locks.specs.Sequential.{Sequential}
use Rattle.lk_locks.specs.Locks.{step_due, step_of}
use Rattle.lk_locks.specs.Steps.{may_make, same_step}
use Rattle.lk_locks.specs.Types.{LockKind, Mcs, RwFifo, RwSimple, Ticket, Move, Call, Step, Op}
use Rattle.lk_locks.specs.Types.{Phase, Idle, StepKind}
use Rattle.lk_locks.specs.invariants.Locks.{AgreeAs}
use Rattle.lk_locks.specs.invariants.WellFormed.{WellFormed}

same_self : (k : StepKind) → same_step k k ≡ true
same_self k = grind arith

-- a thread in a call or inside is one of the lock's
pub in_lock : (ps : List Phase) (t : ℕ) → phase_at ps t ≢ Idle → t < length ps
in_lock ps t busy = elim (cases_lt t (length ps)) [
  | inl below ↦ below
  | inr past ↦ absurd (busy (get_or_past ps t Idle past))
]

within : (s : State) (t : ℕ) (p : Phase) → phase_at s.phases t ≡ p → p ≢ Idle
    → nat_lt t (length s.phases) ≡ true
within s t p was busy = lt-ltb t (length s.phases) (in_lock s.phases t (rw was busy))

module _ {s : State} (t : ℕ) {p : Phase} (was : phase_at s.phases t ≡ p) (busy : p ≢ Idle) where
  -- a thread takes its next step, which is no failed poll
  pub by_step : (k : StepKind) → step_due s.kind p ≡ Some k
      → is_wait (step_of s.kind s.bits s.words t p).outcome ≡ false → CanFinish s
  by_step k next waits_not = record {
    thread = t;
    move = Step k;
    finishing = record {
      accepted = and_from _ _ (within s t p was busy) (rw (was, next) (same_self k));
      acquires_not = refl;
      waits_not = rw was waits_not;
    };
  }

  -- a thread that is inside calls, to leave
  pub by_call : (op : Op) → may_make s.kind p (Call op) ≡ true
      → is_acquiring s.kind (Call op) ≡ false → CanFinish s
  by_call op may acquires_not = record {
    thread = t;
    move = Call op;
    finishing = record {
      accepted = and_from _ _ (within s t p was busy) (rw was may);
      acquires_not = acquires_not;
      waits_not = refl;
    };
  }

-- a lock of this kind, with these words and phases
abbrev pub state_of : LockKind → ℕ → List ℕ → List Phase → State
state_of kind bits ws ps = record { kind = kind; bits = bits; words = ws; phases = ps }

-- unless all threads are idle, some thread can go on
abbrev pub SomeoneCan : LockKind → Type 0
SomeoneCan kind =
    (bits : ℕ) (ws : List ℕ) (ps : List Phase) (q : Sequential) (t : ℕ) (p : Phase)
    → WellFormed (state_of kind bits ws ps) → AgreeAs kind (state_of kind bits ws ps) q
    → phase_at ps t ≡ p → p ≢ Idle → CanFinish (state_of kind bits ws ps)

-- a thread that has a finishing move is one of the lock's
pub is_within : (s : State) (t : ℕ) (m : Move) → IsFinishing s t m → t < length s.phases
is_within s t m finishing = ltb-true t (length s.phases) (and_parts _ _ finishing.accepted).0

-- and its phase allows the move
pub is_possible : (s : State) (t : ℕ) (m : Move) → IsFinishing s t m
    → may_make s.kind (phase_at s.phases t) m ≡ true
is_possible s t m finishing = (and_parts (nat_lt t (length s.phases)) _ finishing.accepted).1

-- a thread with no step to take takes none
no_step : (due : Option StepKind) (k : StepKind) → due ≡ None
    → option_eq same_step (Some k) due ≡ true → ⊥
no_step due k none may = grind arith

-- a thread with a step to take calls nothing
no_call : (kind : LockKind) (p : Phase) (op : Op) (k : StepKind) → step_due kind p ≡ Some k
    → may_make kind p (Call op) ≡ true → ⊥
no_call Ticket p op k next may = grind arith
no_call Mcs p op k next may = grind arith
no_call RwSimple p op k next may = grind arith
no_call RwFifo p op k next may = grind arith

module _ (s : State) (t : ℕ) where
  -- a thread that would wait has no finishing move
  pub none_waiting : (k : StepKind) → step_due s.kind (phase_at s.phases t) ≡ Some k
      → is_wait (step_of s.kind s.bits s.words t (phase_at s.phases t)).outcome ≡ true
      → (m : Move) → ¬ IsFinishing s t m
  none_waiting k next waits (Call op) finishing =
      no_call s.kind (phase_at s.phases t) op k next (is_possible s t (Call op) finishing)
  none_waiting k next waits (Step step) finishing =
      absurd (false≢true (sym finishing.waits_not ∙ waits))

  -- nor has one that is in no call and has no call to leave
  pub none_inside : step_due s.kind (phase_at s.phases t) ≡ None
      → ((op : Op) → may_make s.kind (phase_at s.phases t) (Call op) ≡ true
      → is_acquiring s.kind (Call op) ≡ true) → (m : Move) → ¬ IsFinishing s t m
  none_inside none only (Call op) finishing =
      absurd
      (false≢true (sym finishing.acquires_not ∙ only op (is_possible s t (Call op) finishing)))
  none_inside none only (Step step) finishing =
      no_step (step_due s.kind (phase_at s.phases t)) step none
      (is_possible s t (Step step) finishing)

idle_due : (kind : LockKind) → step_due kind Idle ≡ None
idle_due Ticket = refl
idle_due kind = refl

-- at rest no thread has a finishing move
pub at_rest : (s : State) → IsAtRest s → CanFinish s → ⊥
at_rest s rests can =
    let t : ℕ = can.thread in
    let idle : phase_at s.phases t ≡ Idle =
    rests t (is_within s t can.move can.finishing) in
    none_inside s t (rw idle (idle_due s.kind)) (rw idle (λ op may. may)) can.move can.finishing
