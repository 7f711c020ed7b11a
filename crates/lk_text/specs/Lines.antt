-- Definitions. The lines of an input, taken one after another; of each its first 97 bytes are kept.
use Rattle.std.specs.Prelude.{◌≡◌, ℕ, List, [], ◌∷◌, ◌++◌, take, slice_range}
use Rattle.std.specs.Prelude.{Option, IfSome, IsSomeAnd, Bool, true, false}
use Rattle.std.specs.Io.KnownBytes.{prepend_known}
use Rattle.lk_lines.specs.Lines.{lines_of}
use Rattle.lk_text.specs.declared.lines.Line.{Line}
use Rattle.lk_text.specs.declared.lines.Lines.{Lines}

-- the bytes of a line that are kept
abbrev pub kept_bytes : Line → List ℕ
kept_bytes line = take line.count line.kept

-- the bytes that are left: what was read ahead, and then what the input has
abbrev pub bytes_left : {R : Type 0} → (R → Option (List ℕ)) → Lines R → Option (List ℕ)
bytes_left remaining lines =
    prepend_known (slice_range lines.chunk.items lines.at lines.filled) (remaining lines.input)

-- the bytes of a line, with its line feed if that was there
abbrev pub with_end : Bool → List ℕ → List ℕ
with_end true bytes = bytes ++ 10 ∷ []
with_end false bytes = bytes

-- it is the first line of the text, which goes on with the rest: its first 97 bytes are kept, and
-- whether its line feed was there
pub record IsFirstLine (text rest : List ℕ) (line : Line) : Type 0 where
  pub bytes : List ℕ
  pub first : lines_of text ≡ bytes ∷ lines_of rest
  pub kept_is : kept_bytes line ≡ take 97 bytes
  pub whole_is : text ≡ with_end line.whole bytes ++ rest

-- the first line of the bytes that were left is taken
abbrev pub TakesLine : Option (List ℕ) → Option (List ℕ) → Line → Type 0
TakesLine old new line = IfSome old (λ text. IsSomeAnd new (λ rest. IsFirstLine text rest line))
