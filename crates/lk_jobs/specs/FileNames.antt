-- Definitions. The names of the files that commands leave in a folder.
use Rattle.std.specs.Prelude.{◌≡◌, ℕ, ◌<◌, ◌++◌, List, codes, length, true}
use Rattle.std.specs.Char.{is_ascii_digit}
use Rattle.std.specs.List.{list_all}

-- a number in decimal digits, and what the name of a schedule ends in
pub record IsScheduleName (name : List ℕ) : Type 0 where
  pub number : List ℕ
  pub some : 0 < length number
  pub digits : list_all is_ascii_digit number ≡ true
  pub parts : name ≡ number ++ codes ".schedule"

-- of a tour a schedule; of an order its trace, or a schedule after other letters
pub data IsOwnName (name : List ℕ) : Type 0 where
  trace : name ≡ codes "run.trace" → IsOwnName name
  of_tour : IsScheduleName name → IsOwnName name
  of_order : (rest : List ℕ) → name ≡ codes "run-" ++ rest → IsScheduleName rest → IsOwnName name
