-- Sums along a list of which one element changes.
use Rattle.std.proofs.Common.{◌≡◌, ◌≢◌, ℕ, zero, suc, ◌+◌, ◌≤◌, List, [], ◌∷◌, ◌++◌, set, get_or}
use Rattle.std.proofs.Common.{sym, refl, ap, arith, inl, inr}
use Rattle.std.proofs.lemmas.Bool.{cases_lt}
use mathlib.Core.Option.{some, some-injective, some-ne-none}
use lib.ListN.{get_elem?}
use Rattle.lk_workers.specs.Counting.{sum_over}

module _ {A : Type 0} where
  module _ (f : A → ℕ) where
    pub sum_over-set : (l : List A) (i : ℕ) (v w : A) → get_elem? l i ≡ some v
        → sum_over f (set l i w) + f v ≡ sum_over f l + f w
    sum_over-set [] i v w e = absurd (some-ne-none v (sym e))
    sum_over-set (x ∷ xs) zero v w e = omega (arith, ap f (some-injective x v e))
    sum_over-set (x ∷ xs) (suc i) v w e = let r = sum_over-set xs i v w e in omega arith

    pub sum_over-append : (l m : List A) → sum_over f (l ++ m) ≡ sum_over f l + sum_over f m
    sum_over-append [] m = omega arith
    sum_over-append (x ∷ xs) m = let r = sum_over-append xs m in omega arith

    -- one element becomes two, the second of them at the end
    pub sum_over-cut : (l : List A) (i : ℕ) (v a b : A) → get_elem? l i ≡ some v → f a + f b ≡ f v
        → sum_over f (set l i a ++ b ∷ []) ≡ sum_over f l
    sum_over-cut l i v a b at same =
        omega (arith, sum_over-set l i v a at, sum_over-append (set l i a) (b ∷ []))

    -- two elements become two others
    pub sum_over-two : (l : List A) (i j : ℕ) (v w a b : A) → get_elem? l i ≡ some v
        → get_elem? (set l i a) j ≡ some w → f a + f b ≡ f v + f w
        → sum_over f (set (set l i a) j b) ≡ sum_over f l
    sum_over-two l i j v w a b at there same =
        omega (arith, sum_over-set l i v a at, sum_over-set (set l i a) j w b there)

    pub at_most_sum : (l : List A) (i : ℕ) (v : A) → get_elem? l i ≡ some v → f v ≤ sum_over f l
    at_most_sum [] i v e = absurd (some-ne-none v (sym e))
    at_most_sum (x ∷ xs) zero v e = let is : f x ≡ f v = ap f (some-injective x v e) in omega arith
    at_most_sum (x ∷ xs) (suc i) v e = let r = at_most_sum xs i v e in omega arith

  module _ (f g : A → ℕ) where
    pub sum_over-both : (l : List A) → sum_over (λ v. f v + g v) l ≡ sum_over f l + sum_over g l
    sum_over-both [] = omega arith
    sum_over-both (x ∷ xs) = let r = sum_over-both xs in omega arith

    -- if f is 0 of each element, so is g
    nothing_at : (l : List A) → ((j : ℕ) (u : A) → get_elem? l j ≡ some u → f u ≡ 0 → g u ≡ 0)
        → sum_over f l ≡ 0 → sum_over g l ≡ 0
    nothing_at [] z e = refl
    nothing_at (x ∷ xs) z e =
        let here = z zero x refl (omega arith) in
        omega (arith, nothing_at xs (λ j u. z (suc j) u) (omega arith))

    -- if one element has all of f, it has all of g
    pub alone_at : (l : List A) → ((j : ℕ) (u : A) → get_elem? l j ≡ some u → f u ≡ 0 → g u ≡ 0)
        → (i : ℕ) (v : A) → get_elem? l i ≡ some v → sum_over f l ≡ f v → sum_over g l ≡ g v
    alone_at [] z i v at e = absurd (some-ne-none v (sym at))
    alone_at (x ∷ xs) z zero v at e =
        let fs = ap f (some-injective x v at) in
        let gs = ap g (some-injective x v at) in
        omega (arith, nothing_at xs (λ j u. z (suc j) u) (omega arith))
    alone_at (x ∷ xs) z (suc i) v at e =
        let low = at_most_sum f xs i v at in
        let here = z zero x refl (omega arith) in
        omega (arith, alone_at xs (λ j u. z (suc j) u) i v at (omega arith))

module _ {A : Type 0} (f : A → ℕ) where
  -- two places that differ add up
  pub two_there : (l : List A) (i j : ℕ) (a b : A) → i ≢ j → get_elem? l i ≡ some a
      → get_elem? l j ≡ some b → f a + f b ≤ sum_over f l
  two_there [] i j a b n e g = absurd (some-ne-none a (sym e))
  two_there (x ∷ xs) zero zero a b n e g = absurd (n refl)
  two_there (x ∷ xs) zero (suc j) a b n e g =
      omega (arith, ap f (some-injective x a e), at_most_sum f xs j b g)
  two_there (x ∷ xs) (suc i) zero a b n e g =
      omega (arith, ap f (some-injective x b g), at_most_sum f xs i a e)
  two_there (x ∷ xs) (suc i) (suc j) a b n e g =
      omega (arith, two_there xs i j a b (λ p. n (ap suc p)) e g)

  pub some_one : (l : List A) → 1 ≤ sum_over f l
      → (i : ℕ) × (a : A) × (get_elem? l i ≡ some a) × (1 ≤ f a)
  some_one [] h = absurd (omega arith)
  some_one (x ∷ xs) h = elim (cases_lt 0 (f x)) [
    | inl here ↦ (zero, x, refl, here)
    | inr later ↦ let (i, a, at, least) = some_one xs (omega arith) in (suc i, a, at, least)
  ]

-- the word at a place
pub word_at : (ws : List ℕ) (i n : ℕ) → get_elem? ws i ≡ some n → get_or ws i 0 ≡ n
word_at [] i n e = absurd (some-ne-none n (sym e))
word_at (w ∷ ws) zero n e = some-injective w n e
word_at (w ∷ ws) (suc i) n e = word_at ws i n e
