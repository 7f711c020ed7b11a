-- Definitions. The effect of one operation on the words, and its answer.
--
-- The five operations are those of Mellor-Crummey and Scott, ACM TOCS 9(1), 1991. Different here:
-- they come one after another, and words have B bits.
use Rattle.std.specs.Prelude.{ℕ, ◌+◌, ◌%◌, ◌^◌, ◌<◌, ◌==◌, List, slice_index, slice_set}
use Rattle.std.specs.Prelude.{if◌then◌else◌}
use Rattle.lk_words.specs.declared.operation.Operation.{Operation}
use Rattle.lk_words.specs.declared.operation.Operation.TheVariants.{Read, Write, Swap}
use Rattle.lk_words.specs.declared.operation.Operation.TheVariants.{CompareAndSwap, FetchAndAdd}
use Rattle.lk_words.specs.declared.operation.Answer.{Answer}
use Rattle.lk_words.specs.declared.operation.Answer.TheVariants.{Nothing, Found, Swapped}
use Rattle.lk_words.specs.declared.operation.Effect.{Effect}

-- the word that an operation is on
abbrev pub word_of : Operation → ℕ
word_of (Read i) = i
word_of (Write i v) = i
word_of (Swap i v) = i
word_of (CompareAndSwap i old new) = i
word_of (FetchAndAdd i d) = i

-- the value that an operation leaves in a word that holds `found`
abbrev pub left_by : ℕ → ℕ → Operation → ℕ
left_by bits found (Read i) = found
left_by bits found (Write i v) = v
left_by bits found (Swap i v) = v
left_by bits found (CompareAndSwap i old new) = if found == old then new else found
left_by bits found (FetchAndAdd i d) = (found + d) % 2 ^ bits

-- the answer of an operation on a word that holds `found`
abbrev pub answer_of : ℕ → Operation → Answer
answer_of found (Write i v) = Nothing
answer_of found (CompareAndSwap i old new) = Swapped (found == old)
answer_of found op = Found found

-- the words after an operation; a read leaves all words as they are
abbrev pub words_after : ℕ → List ℕ → Operation → List ℕ
words_after bits ws (Read i) = ws
words_after bits ws op = slice_set ws (word_of op) (left_by bits (slice_index ws (word_of op)) op)

-- the effect of an operation on its word among the words `ws`
abbrev pub effect_on : ℕ → List ℕ → Operation → Effect
effect_on bits ws op = record {
  word = word_of op;
  found = slice_index ws (word_of op);
  left = left_by bits (slice_index ws (word_of op)) op;
  answer = answer_of (slice_index ws (word_of op)) op;
}

-- the operation's word is one of `size` words, and its operands fit words of `bits` bits
abbrev pub Fits : ℕ → ℕ → Operation → Type 0
Fits bits size (Read i) = i < size
Fits bits size (Write i v) = (i < size) × (v < 2 ^ bits)
Fits bits size (Swap i v) = (i < size) × (v < 2 ^ bits)
Fits bits size (CompareAndSwap i old new) = (i < size) × (old < 2 ^ bits) × (new < 2 ^ bits)
Fits bits size (FetchAndAdd i d) = (i < size) × (d < 2 ^ bits)
