-- Definitions. The notes beside a message.
use Rattle.std.specs.Prelude.{◌≡◌, ◌++◌, ◌∷◌, [], ℕ, List, Option, IfSome, string_bytes}
use Rattle.lk_text.specs.declared.report.Note.{Note}

-- a text about a line of a file is said after those before, and it is such a text
pub record Says (old new : List Note) (file : List ℕ) (line : ℕ)
    (IsText : Option (List ℕ) → Type 0) : Type 0 where
  pub note : Note
  pub more : new ≡ old ++ note ∷ []
  pub file_is : string_bytes note.file ≡ file
  pub line_is : note.line ≡ line
  pub text_is : IsText note.text

-- the text is this one, unless memory was refused for it
abbrev pub IsSaid : List ℕ → Option (List ℕ) → Type 0
IsSaid said text = IfSome text (λ bytes. bytes ≡ said)
