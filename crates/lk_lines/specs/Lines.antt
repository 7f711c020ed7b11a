-- Definitions: the lines of a text, as POSIX cuts it at each line feed, the tokens of a line, and
-- the move that a line is.
use Rattle.std.specs.Prelude.{◌≡◌, ℕ, ◌+◌, List, [], ◌∷◌, ◌++◌, Bool, true, false, ◌==◌, ◌||◌}
use Rattle.std.specs.Prelude.{length, slice_index, Option, Some, None}
use Rattle.std.specs.List.{list_all, slice_split}
use Rattle.std.specs.Option.{option_zip}
use Rattle.lk_locks.specs.declared.kinds.Move.{Move}
use Rattle.lk_lines.specs.Vocabulary.{number_of, move_named}

abbrev pub is_line_feed : ℕ → Bool
is_line_feed b = b == 10

abbrev pub is_space : ℕ → Bool
is_space b = b == 32

-- a last piece that is empty is no line
abbrev pub without_empty_end : List (List ℕ) → List (List ℕ)
without_empty_end [] = []
without_empty_end (piece ∷ next ∷ pieces) = piece ∷ without_empty_end (next ∷ pieces)
without_empty_end ([] ∷ []) = []
without_empty_end (piece ∷ []) = piece ∷ []

-- the text, cut at each line feed
unfoldable pub lines_of : List ℕ → List (List ℕ)
lines_of text = without_empty_end (slice_split is_line_feed text)

-- an empty line, or one that begins with `#`
abbrev pub is_skipped : List ℕ → Bool
is_skipped line = length line == 0 || slice_index line 0 == 35

-- the line, cut at each space: two spaces in a row, or one at an end, make an empty token
abbrev pub tokens_of : List ℕ → List (List ℕ)
tokens_of line = slice_split is_space line

-- a thread's number and what it does
abbrev pub move_of_tokens : List (List ℕ) → Option (ℕ × Move)
move_of_tokens (thread ∷ token ∷ []) = option_zip (number_of 0 255 thread) (move_named token)
move_of_tokens _ = None

-- the move that a line is
unfoldable pub move_of : List ℕ → Option (ℕ × Move)
move_of line = move_of_tokens (tokens_of line)

-- lines, and the number of the first of them
pub record Numbered : Type 0 where
  pub number : ℕ
  pub lines : List (List ℕ)

-- The first of these lines has that number. Some are skipped at the front: then come the others,
-- from number `next` on.
pub record SkipsTo (number : ℕ) (lines : List (List ℕ)) (next : ℕ) (others : List (List ℕ))
    : Type 0 where
  pub skipped : List (List ℕ)
  pub parts : lines ≡ skipped ++ others
  pub all : list_all is_skipped skipped ≡ true
  pub counted : next ≡ number + length skipped

-- after lines that are skipped comes this move, and then the new lines
pub record IsNextMove (old : Numbered) (number thread : ℕ) (action : Move) (new : Numbered)
    : Type 0 where
  pub line : List ℕ
  pub found : SkipsTo old.number old.lines number (line ∷ new.lines)
  pub read : is_skipped line ≡ false
  pub move : move_of line ≡ Some (thread, action)
  pub counted : new.number ≡ number + 1
