-- Invariants: the first line of a text, if it is a move.
use Rattle.std.specs.Prelude.{◌≡◌, ◌<◌, ℕ, List, ◌∷◌, ◌++◌, Some, length, true, false}
use Rattle.std.specs.Str.{all_ascii_digits}
use Rattle.lk_locks.specs.declared.kinds.Move.{Move}
use Rattle.lk_lines.specs.Lines.{is_skipped, lines_of, move_of}
use Rattle.lk_lines.specs.Vocabulary.{number_of}

-- the text is this thread's number, a space, and the rest
pub record IsFirstThread (text : List ℕ) (thread : ℕ) (rest : List ℕ) : Type 0 where
  pub number : List ℕ
  pub parts : text ≡ number ++ 32 ∷ rest
  pub some : 0 < length number
  pub digits : all_ascii_digits number ≡ true
  pub value : number_of 0 255 number ≡ Some thread

-- the first line is this move, and the rest comes after it
pub record IsFirstMove (text : List ℕ) (thread : ℕ) (action : Move) (rest : List ℕ) : Type 0 where
  pub line : List ℕ
  pub first : lines_of text ≡ line ∷ lines_of rest
  pub read : is_skipped line ≡ false
  pub move : move_of line ≡ Some (thread, action)
  pub shorter : length rest < length text
