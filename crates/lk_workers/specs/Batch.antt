-- Definitions. The text of a batch: each report after a line with its number.
use Rattle.std.specs.Prelude.{ℕ, ◌+◌, List, [], ◌∷◌, ◌++◌, codes, decimal}

abbrev pub file_line : ℕ → List ℕ
file_line k = codes "file " ++ decimal k ++ codes "\n"

-- the reports, the first of which has this number
abbrev pub numbered_from : ℕ → List (List ℕ) → List ℕ
numbered_from k [] = []
numbered_from k (r ∷ rs) = file_line k ++ r ++ numbered_from (k + 1) rs

abbrev pub batch_text_of : List (List ℕ) → List ℕ
batch_text_of reports = numbered_from 1 reports
