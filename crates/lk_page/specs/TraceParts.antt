-- Definitions: the parts of a line of a trace as numbers.
use Rattle.std.specs.Prelude.{ℕ, ◌+◌, List, [], ◌∷◌, ◌++◌, length, replicate, Option, None, Some}
use Rattle.std.specs.Prelude.{option_map, Bool, if◌then◌else◌}
use Rattle.std.specs.Option.{option_map_or}
use Rattle.lk_lines.specs.Lines.{tokens_of}
use Rattle.lk_trace.specs.Codes.{outcome_number}
use Rattle.lk_trace.specs.Lines.{short_line_of}
use Rattle.lk_trace.specs.declared.line.Seen.{Seen}
use Rattle.lk_trace.specs.declared.line.Seen.TheVariants.{Nothing, OnWord, WithOutcome}
use Rattle.lk_trace.specs.declared.names.WordName.{WordName}
use Rattle.lk_trace.specs.declared.names.WordName.TheVariants.{NextTicket, NowServing, Tail, Next}
use Rattle.lk_trace.specs.declared.names.WordName.TheVariants.{Locked}

-- the bytes of the first two words, with the space between them
abbrev pub head_size : List (List ℕ) → ℕ
head_size (thread ∷ action ∷ words) = length thread + 1 + length action
head_size words = 0

-- the code of a word's name. No line names a word of a monitor
abbrev pub word_code : WordName → ℕ
word_code NextTicket = 1
word_code NowServing = 2
word_code Tail = 3
word_code (Next thread) = 4
word_code (Locked thread) = 5
word_code word = 0

-- the thread in whose record a word is; 0 for a word in no record
abbrev pub word_owner : WordName → ℕ
word_owner (Next thread) = thread
word_owner (Locked thread) = thread
word_owner word = 0

-- whether a number is given, and the number
abbrev pub given : Option ℕ → List ℕ
given None = 0 ∷ 0 ∷ []
given (Some number) = 1 ∷ number ∷ []

abbrev pub result_code : Option Bool → ℕ
result_code wrote = option_map_or (λ w. if w then 2 else 1) wrote 0

-- the eleven numbers of a move whose first two words have so many bytes
abbrev pub parts_of : ℕ → Seen → List ℕ
parts_of size Nothing = size ∷ replicate 10 0
parts_of size (OnWord word found left wrote) =
    size ∷ word_code word ∷ word_owner word
    ∷ (given found ++ given left ++ result_code wrote ∷ replicate 3 0)
parts_of size (WithOutcome count outcome) =
    size ∷ (replicate 7 0
    ++ given count ++ option_map_or (λ o. 1 + outcome_number o) outcome 0 ∷ [])

-- those of a line, if it is a move of a trace
abbrev pub line_parts : List ℕ → Option (List ℕ)
line_parts line =
    option_map (λ l. parts_of (head_size (tokens_of line)) l.seen) (short_line_of line)
