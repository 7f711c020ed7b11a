-- Each step of a queue lock that is accepted is one operation, of the kind that the move names.
use Rattle.std.proofs.Common.{arith, length, ◌<◌, List, None, Option, Some, ap, refl, ℕ, ◌∙◌, ◌≤◌}
use Rattle.std.proofs.Common.{◌≡◌}
use Rattle.lk_words.specs.Operations.{effect_on, word_of, words_after}
use Rattle.lk_words.proofs.Operations.{one_word}
use Rattle.lk_words.specs.declared.operation.Operation.{Operation}
use Rattle.lk_words.specs.declared.operation.Answer.{Answer}
use Rattle.lk_locks.specs.{Change.step_by, invariants.Locks.IsPhaseOf, State.State, State.phase_at}
use Rattle.lk_locks.specs.invariants.WellFormed.{WellFormed}
use Rattle.lk_locks.specs.Effects.{IsEffectOf, IsMade, IsOneOperation}
use Rattle.lk_locks.specs.Locks.{family_of, operation_of, step_of, word_count}
use Rattle.lk_locks.specs.Steps.{next_state, refusal_in, refusal_of}
use Rattle.lk_locks.specs.Types.{LockKind, Mcs, RwFifo, RwSimple, Ticket, Move, Call, Step, Outcome}
use Rattle.lk_locks.specs.Types.{Phase, ClearNext, TakeTicket, StepKind, OneWord}
use Rattle.lk_locks.proofs.Moves.{accepted_of}
use Rattle.lk_locks.specs.mcs
use Rattle.lk_locks.specs.ticket

-- each accepted step of a lock makes the operation that its table names
makes_operation : (kind : LockKind) (bits : ℕ) (ws : List ℕ) (t : ℕ) (p : Phase) (k : StepKind)
    → refusal_in kind p (Step k) ≡ None
    → IsMade (family_of kind) bits ws k (operation_of kind bits t p)
    (step_of kind bits ws t p).words
makes_operation Ticket bits ws t p k r = grind arith
makes_operation Mcs bits ws t p k r = grind arith
makes_operation kind bits ws t p k r = tt

-- an answer leads to a phase, an outcome and entries, and leaves the words
pub ticket_leaves : (i : ℕ) (p : Phase) (answer : Answer) (ws : List ℕ)
    → (ticket.after i p answer ws).words ≡ ws
ticket_leaves i p answer ws = grind arith

mcs_leaves : (i : ℕ) (p : Phase) (answer : Answer) (ws : List ℕ)
    → (mcs.after i p answer ws).words ≡ ws
mcs_leaves i p answer ws = grind arith

-- after a step the words are as its operation leaves them
pub step_words : (kind : LockKind) (bits : ℕ) (ws : List ℕ) (t : ℕ) (p : Phase)
    (operation : Operation) → operation_of kind bits t p ≡ Some operation
    → (step_of kind bits ws t p).words ≡ words_after bits ws operation
step_words Ticket bits ws t p operation e =
    ap (λ o. (step_by (ticket.after t) bits ws p o).words) e ∙ ticket_leaves t p _ _
step_words Mcs bits ws t p operation e =
    ap (λ o. (step_by (mcs.after t) bits ws p o).words) e ∙ mcs_leaves t p _ _
step_words RwSimple bits ws t p operation e = cc
step_words RwFifo bits ws t p operation e = cc

-- each accepted step of a queue lock is one operation on one word
pub one_operation : (s : State) (t : ℕ) (m : Move) → refusal_of s t m ≡ None
    → IsOneOperation s t m (next_state s t m).words
one_operation s t (Call op) r = refl
one_operation s t (Step k) r =
    makes_operation s.kind s.bits s.words t (phase_at s.phases t) k
    (accepted_of s t (Step k) r).fits

-- the word of an operation, or word 0 if there is none
abbrev word_or : Option Operation → ℕ
word_or None = 0
word_or (Some o) = word_of o

-- the word of an operation is one of those that a lock with n threads needs
word_within : (kind : LockKind) (n bits t : ℕ) (p : Phase) (o : Operation)
    → operation_of kind bits t p ≡ Some o → t < n → IsPhaseOf kind n p
    → word_of o < word_count kind n
word_within Ticket n bits t TakeTicket o e h f = omega (arith, ap word_or e)
word_within Mcs n bits t ClearNext o e h f = omega (arith, ap word_or e)
word_within kind n bits t p o e h f = omega (arith, ap word_or e)

-- the effect of an operation on its word is the effect of its step on the words
pub effect_tells : (kind : LockKind) (n bits : ℕ) (ws : List ℕ) (t : ℕ) (p : Phase) (o : Operation)
    (outcome : Outcome) → operation_of kind bits t p ≡ Some o → t < n → IsPhaseOf kind n p
    → word_count kind n ≤ length ws → outcome ≡ (step_of kind bits ws t p).outcome
    → IsEffectOf (step_of kind bits ws t p) ws (OneWord (effect_on bits ws o) outcome)
effect_tells kind n bits ws t p o outcome e h f enough same = (
  (
    omega (arith, word_within kind n bits t p o e h f, enough),
    refl,
    step_words kind bits ws t p o e ∙ one_word bits ws o,
  ),
  same,
)

-- the word of an operation is one of the lock's
pub operation_within : (s : State) (t : ℕ) (o : Operation) → WellFormed s → t < length s.phases
    → operation_of s.kind s.bits t (phase_at s.phases t) ≡ Some o → word_of o < length s.words
operation_within s t o w h e =
    omega (
      arith,
      word_within s.kind (length s.phases) s.bits t (phase_at s.phases t) o e h (w.phases_fit t h),
      w.enough,
    )
