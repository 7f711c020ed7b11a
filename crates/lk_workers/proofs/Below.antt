-- Numbers below a number.
use Rattle.std.proofs.Common.{add-one, ◌≡◌, ℕ, zero, suc, ◌+◌, ◌<◌, ◌≤◌, List, [], ◌∷◌, All, refl}
use Rattle.std.proofs.Common.{ap, ◌∙◌, arith, inl, inr, lt_of_not-le}
use Rattle.std.proofs.lemmas.Bool.{cases_lt}
use Rattle.std.proofs.lemmas.List.Elements.{All-cons}
use Rattle.std.proofs.lemmas.List.Concat.{flat_map-cons}
use Rattle.std.specs.List.{flat_map}
use native.Mathlib.Decide.{dec_le}
use Rattle.lk_workers.specs.Counting.{sum_over, indicator, occurrences, once_below, IsEachBelow}
use Rattle.lk_workers.proofs.Sums.{sum_over-append}

pub below_suc : (x n : ℕ) → once_below x (n + 1) ≡ once_below x n + indicator x n
below_suc x n = ap (once_below x) (add-one n)

pub indicator_here : (x : ℕ) → indicator x x ≡ 1
indicator_here x = grind arith

pub none_there : (x n : ℕ) → n ≤ x → once_below x n ≡ 0
none_there x zero h = refl
none_there x (suc n) h = let r = none_there x n (omega arith) in grind arith

pub at_most_once : (x n : ℕ) → once_below x n ≤ 1
at_most_once x zero = omega arith
at_most_once x (suc n) = go (dec_le n x) (at_most_once x n)
  where
    go : Dec (n ≤ x) → once_below x n ≤ 1 → once_below x n + indicator x n ≤ 1
    go (yes d) r = let r = none_there x n d in grind arith
    go (no d) r = let l = lt_of_not-le d in grind arith

pub below_of : (x n : ℕ) → 1 ≤ once_below x n → x < n
below_of x n h = elim (cases_lt x n) [
  | inl low ↦ low
  | inr high ↦ absurd (omega (arith, none_there x n high))
]

pub once_there : (x n : ℕ) → x < n → once_below x n ≡ 1
once_there x zero h = absurd (omega arith)
once_there x (suc n) h = go (dec_le n x) (once_there x n)
  where
    go : Dec (n ≤ x) → (x < n → once_below x n ≡ 1) → once_below x n + indicator x n ≡ 1
    go (yes d) f = let r = none_there x n d in grind arith
    go (no d) f = let r = f (lt_of_not-le d) in let l = lt_of_not-le d in grind arith

-- a list that has each number as often as it is below n
pub each_below : (n : ℕ) (xs : List ℕ) → ((x : ℕ) → occurrences x xs ≡ once_below x n)
    → IsEachBelow n xs
each_below n xs h = (λ x l. h x ∙ once_there x n l, λ x l. h x ∙ none_there x n l)

pub occurrences-flat_map : {A : Type 0} (f : A → List ℕ) (x : ℕ) (vs : List A)
    → occurrences x (flat_map f vs) ≡ sum_over (λ v. occurrences x (f v)) vs
occurrences-flat_map f x [] = refl
occurrences-flat_map f x (v ∷ vs) =
    ap (occurrences x) (flat_map-cons f v vs) ∙ omega (
      arith,
      occurrences-flat_map f x vs,
      sum_over-append (indicator x) (f v) (flat_map f vs),
    )

-- if only numbers below n are in a list, all are below n
pub all_below : (n : ℕ) (xs : List ℕ) → ((x : ℕ) → 1 ≤ occurrences x xs → x < n)
    → All (λ x. x < n) xs
all_below n [] h = λ k d l. absurd (omega arith)
all_below n (y ∷ ys) h =
    All-cons (λ x. x < n) y ys (h y (omega (arith, indicator_here y)))
    (all_below n ys (λ x t. h x (omega arith)))
