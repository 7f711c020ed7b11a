-- Invariants. Lists of threads.
use Rattle.std.specs.Prelude.{◌≡◌, ℕ, ◌<◌, List, [], ◌∷◌, Option, Some, Bool, true, false, nat_eq}
use Rattle.std.specs.Option.{option_eq}
use Rattle.lk_locks.specs.Sequential.{has}

-- there is one, and it is t
abbrev pub is_this : Option ℕ → ℕ → Bool
is_this o t = option_eq nat_eq (Some t) o

abbrev pub EachOnce : List ℕ → Type 0
EachOnce [] = Unit {0}
EachOnce (t ∷ ts) = (has ts t ≡ false) × EachOnce ts

-- threads below 64, each once
pub record AreThreads (ts : List ℕ) : Type 0 where
  pub once : EachOnce ts
  pub below : (t : ℕ) → has ts t ≡ true → t < 64
