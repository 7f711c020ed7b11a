-- The words of a line have its bytes, and one more.
use Rattle.std.proofs.Common.{◌≡◌, ◌+◌, ℕ, List, [], ◌∷◌, arith, length, refl}
use Rattle.lk_lines.specs.Lines.{is_space, tokens_of}
use Rattle.lk_lines.proofs.Cuts.{has_piece}
use Rattle.lk_trace.specs.Unreadable.{width}

pub width_words : (line : List ℕ) → width (tokens_of line) ≡ length line + 1
width_words [] = refl
width_words (b ∷ bs) = grind (arith, width_words bs, has_piece is_space bs)
