-- Totals of a number for each thread of a lock.
use Rattle.std.proofs.Common.{arith, inl, inr, refl, suc, sym, zero, ℕ, ◌*◌, ◌+◌, ◌<◌, ◌≡◌, ◌≢◌}
use Rattle.std.proofs.Common.{◌≤◌}
use Rattle.std.proofs.lemmas.Bool.Decides.{eqb_tells}

-- the total of the numbers of the threads below n
abbrev pub total : (ℕ → ℕ) → ℕ → ℕ
total f zero = 0
total f (suc n) = f n + total f n

-- numbers that agree have the same total
same_total : (f g : ℕ → ℕ) (n : ℕ) → ((v : ℕ) → v < n → g v ≡ f v) → total g n ≡ total f n
same_total f g zero same = refl
same_total f g (suc n) same =
    omega (arith, same n (omega arith), same_total f g n (λ v below. same v (omega arith)))

-- if one thread's number changes, the total changes by as much
pub total_change : (f g : ℕ → ℕ) (n u : ℕ) → u < n → ((v : ℕ) → v ≢ u → g v ≡ f v)
    → total g n + f u ≡ total f n + g u
total_change f g zero u below others = absurd (omega arith)
total_change f g (suc n) u below others = elim (eqb_tells u n) [
  | inl (_, same) ↦
      rw same
      (omega (
        arith,
        same_total f g n (λ v before. others v (λ equal. omega (arith, same, equal))),
      ))
  | inr (_, differs) ↦
      omega (
        arith,
        total_change f g n u (omega (arith, below, differs)) others,
        others n (λ equal. differs (sym equal)),
      )
]

-- if no number is above k, the total of n numbers is not above n * k
pub total_most : (f : ℕ → ℕ) (n k : ℕ) → ((v : ℕ) → f v ≤ k) → total f n ≤ n * k
total_most f zero k each = omega arith
total_most f (suc n) k each = omega (arith, each n, total_most f n k each)

-- the same, with the number of one thread itself
pub total_but_one : (f : ℕ → ℕ) (n k t : ℕ) → ((v : ℕ) → f v ≤ k) → t < n
    → total f n + k ≤ f t + n * k
total_but_one f zero k t each below = absurd (omega arith)
total_but_one f (suc n) k t each below = elim (eqb_tells t n) [
  | inl (_, same) ↦ rw same (omega (arith, total_most f n k each))
  | inr (_, differs) ↦
      omega (arith, each n, total_but_one f n k t each (omega (arith, below, differs)))
]

-- the same, with the numbers of two threads themselves
pub total_but_two : (f : ℕ → ℕ) (n k t u : ℕ) → ((v : ℕ) → f v ≤ k) → t < n → u < n → t ≢ u
    → total f n + 2 * k ≤ f t + f u + n * k
total_but_two f zero k t u each below also apart = absurd (omega arith)
total_but_two f (suc n) k t u each below also apart = elim (eqb_tells t n) [
  | inl (_, same) ↦
      rw same
      (omega (
        arith,
        total_but_one f n k u each (omega (arith, also, apart, same)),
      ))
  | inr (_, differs) ↦ elim (eqb_tells u n) [
    | inl (_, same) ↦
        rw same (omega (arith, total_but_one f n k t each (omega (arith, below, differs))))
    | inr (_, also_differs) ↦
        omega (
          arith,
          each n,
          total_but_two f n k t u each (omega (arith, below, differs))
              (omega (arith, also, also_differs)) apart,
        )
  ]
]
