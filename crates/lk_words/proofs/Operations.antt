-- An operation changes its word alone.
use Rattle.std.proofs.Common.{List, refl, set, slice_index, sym, ℕ, ◌≡◌}
use Rattle.std.proofs.lemmas.List.{set-get_or}
use Rattle.lk_words.specs.Operations.{left_by, word_of, words_after}
use Rattle.lk_words.specs.declared.operation.Operation.{Operation}
use Rattle.lk_words.specs.declared.operation.Operation.TheVariants.{CompareAndSwap, FetchAndAdd}
use Rattle.lk_words.specs.declared.operation.Operation.TheVariants.{Read, Swap, Write}

pub one_word : (bits : ℕ) (ws : List ℕ) (o : Operation)
    → words_after bits ws o ≡ set ws (word_of o) (left_by bits (slice_index ws (word_of o)) o)
one_word bits ws (Read i) = sym (set-get_or ws i 0)
one_word bits ws (Write i v) = refl
one_word bits ws (Swap i v) = refl
one_word bits ws (CompareAndSwap i old new) = refl
one_word bits ws (FetchAndAdd i d) = refl
