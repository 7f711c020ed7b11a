-- Lists of readers stay in ascending order if one joins or leaves, and the place of that one.
use Rattle.std.proofs.Common.{ap, arith, eqb, false, inl, inr, insert, leb, length, List, ltb}
use Rattle.std.proofs.Common.{nat_lt, refl, remove, slice_index_or, true, zero, suc, [], ◌<◌, ◌≤◌}
use Rattle.std.proofs.Common.{◌∷◌, ◌≡◌, ℕ}
use Rattle.std.specs.List.{AllByRecursion}
use Rattle.std.specs.List.Sorted.{IsNonDecreasingBy, IsPartitionPoint}
use Rattle.std.proofs.lemmas.Bool.{eqb-true, le-ltb, leb-false, leb-true, lt-ltb, ltb-false}
use Rattle.std.proofs.lemmas.Bool.{ltb-true, cases_Bool, or_parts}
use Rattle.std.proofs.lemmas.Bool.Decides.{nat_tests}
use Rattle.lk_locks.specs.Sequential.{has, IsAscending, with_reader, without_reader}

-- a property of all in the list and of one that joins holds of all after that
pub all_with_reader : (Holds : ℕ → Type 0) (ts : List ℕ) (t : ℕ) → Holds t → AllByRecursion Holds ts
    → AllByRecursion Holds (with_reader ts t)
all_with_reader Holds [] t holds all = (holds, tt)
all_with_reader Holds (first ∷ ts) t holds (here, rest) = elim (cases_Bool (nat_lt t first)) [
  | inl smaller ↦ rw smaller (holds, (here, rest))
  | inr not_smaller ↦ rw not_smaller (here, all_with_reader Holds ts t holds rest)
]

-- a property of all in the list holds of all after one has left
pub all_without_reader : (Holds : ℕ → Type 0) (ts : List ℕ) (t : ℕ) → AllByRecursion Holds ts
    → AllByRecursion Holds (without_reader ts t)
all_without_reader Holds [] t all = tt
all_without_reader Holds (first ∷ ts) t (here, rest) = elim (cases_Bool (eqb t first)) [
  | inl leaves ↦ rw leaves rest
  | inr stays ↦ rw stays (here, all_without_reader Holds ts t rest)
]

-- numbers above a number are above each smaller one
all_above : (t u : ℕ) (ts : List ℕ) → t < u → AllByRecursion (λ v. u < v) ts
    → AllByRecursion (λ v. t < v) ts
all_above t u [] smaller all = tt
all_above t u (v ∷ ts) smaller (above, rest) =
    (omega (arith, above), all_above t u ts smaller rest)

-- the readers stay in ascending order if one joins
pub ascending_with_reader : (ts : List ℕ) (t : ℕ) → IsAscending ts → has ts t ≡ false
    → IsAscending (with_reader ts t)
ascending_with_reader [] t ascending absent = (tt, tt)
ascending_with_reader (first ∷ ts) t (above, ascending) absent =
    elim (cases_Bool (nat_lt t first)) [
      | inl smaller ↦
          let is_below : t < first = ltb-true t first smaller in
          rw smaller ((is_below, all_above t first ts is_below above), (above, ascending))
      | inr not_smaller ↦
          let (differ, absent_after) = or_parts (eqb t first) (has ts t) absent in
          let is_above : first < t = grind (arith, nat_tests, not_smaller, differ) in
          rw not_smaller (
            all_with_reader (λ u. first < u) ts t is_above above,
            ascending_with_reader ts t ascending absent_after,
          )
    ]

-- the readers stay in ascending order if one leaves
pub ascending_without_reader : (ts : List ℕ) (t : ℕ) → IsAscending ts
    → IsAscending (without_reader ts t)
ascending_without_reader [] t ascending = tt
ascending_without_reader (first ∷ ts) t (above, ascending) = elim (cases_Bool (eqb t first)) [
  | inl leaves ↦ rw leaves ascending
  | inr stays ↦ rw stays (
    all_without_reader (λ u. first < u) ts t above,
    ascending_without_reader ts t ascending,
  )
]

-- the first of an ascending list is below each one after it
pub below_member : (ts : List ℕ) (t u : ℕ) → AllByRecursion (λ v. t < v) ts → has ts u ≡ true
    → t < u
below_member [] t u all member = absurd (cc)
below_member (v ∷ ts) t u (here, rest) member = elim (cases_Bool (eqb u v)) [
  | inl same ↦ omega (arith, eqb-true u v same, here)
  | inr differ ↦ below_member ts t u rest (cc)
]

below_at : (ts : List ℕ) (t i d : ℕ) → AllByRecursion (λ v. t < v) ts → i < length ts
    → t < slice_index_or ts i d
below_at [] t i d all within = absurd (omega (arith, within))
below_at (v ∷ ts) t zero d (here, rest) within = here
below_at (v ∷ ts) t (suc i) d (here, rest) within = below_at ts t i d rest (omega (arith, within))

pub never_falls : (ts : List ℕ) → IsAscending ts → IsNonDecreasingBy (λ t. t) ts
never_falls [] ascending i j d le within = absurd (omega (arith, within))
never_falls (t ∷ ts) (above, ascending) zero zero d le within = omega arith
never_falls (t ∷ ts) (above, ascending) zero (suc j) d le within =
    omega (arith, below_at ts t j d above (omega (arith, within)))
never_falls (t ∷ ts) (above, ascending) (suc i) zero d le within = absurd (omega (arith, le))
never_falls (t ∷ ts) (above, ascending) (suc i) (suc j) d le within =
    never_falls ts ascending i j d (omega (arith, le)) (omega (arith, within))

-- the place after those up to a thread is where it joins
pub place_joins : (ts : List ℕ) (t i : ℕ) → i ≤ length ts
    → IsPartitionPoint (λ u. leb u t ≡ true) (λ u. leb u t ≡ false) ts i
    → insert ts i t ≡ with_reader ts t
place_joins [] t zero within point = refl
place_joins [] t (suc i) within point = absurd (omega (arith, within))
place_joins (u ∷ ts) t zero within point =
    rw (lt-ltb t u (leb-false u t (point.1 0 0 (omega arith) (omega arith)))) refl
place_joins (u ∷ ts) t (suc i) within point =
    rw (le-ltb t u (leb-true u t (point.0 0 0 (omega arith) (omega arith))))
    (ap (λ us. u ∷ us) (place_joins ts t i (omega (arith, within)) (
      λ k d low high. point.0 (suc k) d (omega arith) (omega (arith, high)),
      λ k d low high. point.1 (suc k) d (omega (arith, low)) (omega (arith, high)),
    )))

-- the place after those below a thread is its own
pub place_is_own : (ts : List ℕ) (t i : ℕ) → IsAscending ts → has ts t ≡ true → i ≤ length ts
    → IsPartitionPoint (λ u. ltb u t ≡ true) (λ u. ltb u t ≡ false) ts i
    → (i < length ts) × (remove ts i ≡ without_reader ts t)
place_is_own [] t i ascending member within point = absurd (cc)
place_is_own (u ∷ ts) t zero (above, ascending) member within point = elim (cases_Bool (eqb t u)) [
  | inl same ↦ (omega arith, rw same refl)
  | inr differ ↦
      absurd (omega (
        arith,
        ltb-false u t (point.1 0 0 (omega arith) (omega arith)),
        below_member ts u t above (cc),
      ))
]
place_is_own (u ∷ ts) t (suc i) (above, ascending) member within point =
    let low : u < t = ltb-true u t (point.0 0 0 (omega arith) (omega arith)) in
    elim (cases_Bool (eqb t u)) [
      | inl same ↦ absurd (omega (arith, low, eqb-true t u same))
      | inr differ ↦
          let rest = place_is_own ts t i ascending (cc) (omega (arith, within)) (
            λ k d low high. point.0 (suc k) d (omega arith) (omega (arith, high)),
            λ k d low high. point.1 (suc k) d (omega (arith, low)) (omega (arith, high)),
          ) in (omega (arith, rest.0), rw differ (ap (λ us. u ∷ us) rest.1))
    ]
