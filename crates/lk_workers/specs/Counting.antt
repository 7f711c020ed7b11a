-- Definitions. The occurrences of a number in a list, and sums along a list.
use Rattle.std.specs.Prelude.{◌≡◌, ℕ, zero, suc, ◌+◌, ◌<◌, ◌≤◌, ◌==◌, List, [], ◌∷◌, if◌then◌else◌}

-- the sum of f over the elements
abbrev pub sum_over : {A : Type 0} → (A → ℕ) → List A → ℕ
sum_over f [] = 0
sum_over f (v ∷ vs) = f v + sum_over f vs

-- 1 if the numbers are equal, else 0
abbrev pub indicator : ℕ → ℕ → ℕ
indicator x y = if y == x then 1 else 0

-- the number of times that x is in the list
abbrev pub occurrences : ℕ → List ℕ → ℕ
occurrences x xs = sum_over (indicator x) xs

-- each number below n is in the list exactly once, and no other number is in it
abbrev pub IsEachBelow : ℕ → List ℕ → Type 0
IsEachBelow n xs =
    ((x : ℕ) → x < n → occurrences x xs ≡ 1) × ((x : ℕ) → n ≤ x → occurrences x xs ≡ 0)

-- 1 if x is below n, else 0
abbrev pub once_below : ℕ → ℕ → ℕ
once_below x zero = 0
once_below x (suc n) = once_below x n + indicator x n
