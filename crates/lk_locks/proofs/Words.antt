-- Sums of words, which wrap.
use Rattle.std.proofs.Common.{ap, arith, inl, inr, ℕ, ◌%◌, ◌+◌, ◌-◌, ◌<◌, ◌≤◌, ◌^◌, ◌∙◌, ◌≡◌}
use Rattle.std.proofs.Math.Nat.{mod-add-mod, mod-eq-sub-mod, mod-eq_of_lt, mod-lt}
use Rattle.std.proofs.{lemmas.Bool.cases_lt, lemmas.Nat.pow_below, lemmas.Nat.pow_pos}
use Rattle.lk_locks.specs.Change.{plus_one}

-- one more and then k more is k + 1 more, also if the word wraps around
pub plus_one_plus : (bits x k : ℕ) → (plus_one bits x + k) % 2 ^ bits ≡ (x + (k + 1)) % 2 ^ bits
plus_one_plus bits x k = mod-add-mod (x + 1) (2 ^ bits) k ∙ ap (λ n. n % 2 ^ bits) (omega arith)

-- no number between 0 and the modulus, added, gives back a word
pub no_round : (m a k : ℕ) → a < m → 0 < k → k < m → (a + k) % m ≡ a → ⊥
no_round m a k h p q e = elim (cases_lt (a + k) m) [
  | inl f ↦ omega (arith, mod-eq_of_lt f)
  | inr f ↦ let g : a + k - m < m = omega arith in omega (arith, mod-eq-sub-mod f, mod-eq_of_lt g)
]

-- one more is a word again
pub plus_one-lt : (bits x : ℕ) → plus_one bits x < 2 ^ bits
plus_one-lt bits x = mod-lt (x + 1) (pow_pos bits)

-- a flag that is set is a word
pub one_fits : (bits : ℕ) → 2 ≤ bits → 1 < 2 ^ bits
one_fits bits h = pow_below 0 bits (omega (arith, h))
