-- A word's name leads back to its place, and the words of a name have the values that its step's
-- effect says.
use Rattle.std.proofs.Common.{List, None, Option, Some, ap, arith, length, option_map, refl}
use Rattle.std.proofs.Common.{slice_index, subst, sym, ℕ, ◌∙◌, ◌<◌, ◌≡◌}
use Rattle.std.proofs.lemmas.Bool.Decides.{nat_tests}
use Rattle.std.proofs.lemmas.List.{get_or-set_same}
use Rattle.lk_words.proofs.Operations.{one_word}
use Rattle.lk_words.specs.Operations.{effect_on, word_of}
use Rattle.lk_words.specs.declared.operation.Effect.{Effect}
use Rattle.lk_words.specs.declared.operation.Operation.{Operation}
use Rattle.lk_locks.proofs.OneOperation.{step_words}
use Rattle.lk_locks.specs.Locks.{operation_of, step_of}
use Rattle.lk_locks.specs.State.{State, phase_at}
use Rattle.lk_locks.specs.declared.kinds.LockKind.{LockKind}
use Rattle.lk_locks.specs.declared.kinds.LockKind.TheVariants.{Mcs, RwFifo, RwSimple, Ticket}
use Rattle.lk_locks.specs.declared.kinds.Move.{Move}
use Rattle.lk_locks.specs.declared.kinds.Move.TheVariants.{Call, Step}
use Rattle.lk_locks.specs.declared.kinds.StepKind.{StepKind}
use Rattle.lk_trace.specs.Checks.{effect_of, value_of, value_after}
use Rattle.lk_trace.specs.Names.{name_at, place_of}
use Rattle.lk_trace.specs.declared.names.WordName.{WordName}

-- the place of a name, and another place if there is none
abbrev place_or : LockKind → ℕ → Option WordName → ℕ
place_or kind place None = place
place_or kind place (Some word) = place_of kind word

led_back : (kind : LockKind) (place : ℕ) → place_or kind place (name_at kind place) ≡ place
led_back Ticket place = grind (arith, nat_tests)
led_back Mcs place = grind (arith, nat_tests)
led_back RwSimple place = grind (arith, nat_tests)
led_back RwFifo place = grind (arith, nat_tests)

named_place : (kind : LockKind) (place : ℕ) (word : WordName) → name_at kind place ≡ Some word
    → place_of kind word ≡ place
named_place kind place word e = sym (ap (place_or kind place) e) ∙ led_back kind place

-- what a word holds before and after a move, as its effect says
pub record HasValues (s : State) (t : ℕ) (m : Move) (effect : Effect) (word : WordName) : Type 0
  where
    pub found : value_of s word ≡ effect.found
    pub left : value_after s t m word ≡ effect.left

of_operation : (s : State) (t : ℕ) (k : StepKind) (word : WordName) (o : Operation)
    → operation_of s.kind s.bits t (phase_at s.phases t) ≡ Some o → word_of o < length s.words
    → name_at s.kind (word_of o) ≡ Some word
    → HasValues s t (Step k) (effect_on s.bits s.words o) word
of_operation s t k word o e h n =
    let p = named_place s.kind (word_of o) word n in
    record {
      found = ap (slice_index s.words) p;
      left = ap (slice_index (step_of s.kind s.bits s.words t (phase_at s.phases t)).words) p
          ∙ ap (λ (ws : List ℕ). slice_index ws (word_of o))
          (step_words s.kind s.bits s.words t (phase_at s.phases t) o e
          ∙ one_word s.bits s.words o)
          ∙ get_or-set_same s.words (word_of o) _ 0 h;
    }

of_option : (s : State) (t : ℕ) (k : StepKind) (word : WordName) (effect : Effect)
    (o : Option Operation) → operation_of s.kind s.bits t (phase_at s.phases t) ≡ o
    → option_map (effect_on s.bits s.words) o ≡ Some effect → effect.word < length s.words
    → name_at s.kind effect.word ≡ Some word → HasValues s t (Step k) effect word
of_option s t k word effect None e is h n = cc
of_option s t k word effect (Some o) e is h n =
    let same : effect_on s.bits s.words o ≡ effect = cc in
    subst (λ (x : Effect). x.word < length s.words → name_at s.kind x.word ≡ Some word
    → HasValues s t (Step k) x word) same (λ h n. of_operation s t k word o e h n) h n

pub has_values : (s : State) (t : ℕ) (m : Move) (word : WordName) (effect : Effect)
    → effect_of s t m ≡ Some effect → effect.word < length s.words
    → name_at s.kind effect.word ≡ Some word → HasValues s t m effect word
has_values s t (Call op) word effect is h n = cc
has_values s t (Step k) word effect is h n =
    of_option s t k word effect (operation_of s.kind s.bits t (phase_at s.phases t)) refl is h n
