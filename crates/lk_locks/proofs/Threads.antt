-- Lists of threads.
use Rattle.std.proofs.Common.{List, [], arith, eqb, false, inl, inr, length, set, replicate, true}
use Rattle.std.proofs.Common.{ℕ, ◌++◌, ◌<◌, ◌∙◌, ◌∷◌, ◌≡◌, ◌≢◌, drop, Option, Some}
use Rattle.std.proofs.lemmas.Bool.{cases_lt, ne_eqb, or_parts, or_right}
use Rattle.std.proofs.lemmas.Bool.Decides.{eqb_tells, nat_tests}
use Rattle.std.proofs.{Math.Bool.or-false, lemmas.List.Folds.list_any-append}
use Rattle.std.proofs.lemmas.List.{get_or-replicate, get_or-set_other, get_or-set_same, get_or_past}
use Rattle.std.proofs.lemmas.List.{length-replicate}
use Rattle.std.specs.List.{AllByRecursion, IsDistinct}
use Rattle.lk_locks.specs.{Sequential.has, State.phase_at, Types.Phase, Types.Idle}
use Rattle.lk_locks.specs.invariants.Threads.{EachOnce, is_this}

-- a thread that the test finds in a place is there
pub this_is : (place : Option ℕ) (t : ℕ) → is_this place t ≡ true → place ≡ Some t
this_is place t found = grind arith

-- the first of a list is in it
pub first_has : (t : ℕ) (rest : List ℕ) → has (t ∷ rest) t ≡ true
first_has t rest = grind arith

-- a thread that is not in a list is not after its first
pub rest_false : (q : List ℕ) (t : ℕ) → has q t ≡ false → has (drop 1 q) t ≡ false
rest_false q t absent = grind arith

-- if a thread is appended, the others are in the list exactly if they were
pub more_other : (q : List ℕ) (t other : ℕ) → other ≢ t → has (q ++ t ∷ []) other ≡ has q other
more_other q t other differs =
    list_any-append (eqb other) q (t ∷ []) ∙ rw (ne_eqb other t differs) (or-false (has q other))

-- a thread that is appended is in the list
pub more_same : (q : List ℕ) (t : ℕ) → has (q ++ t ∷ []) t ≡ true
more_same q t = list_any-append (eqb t) q (t ∷ []) ∙ or_right (has q t) _ (first_has t [])

-- if all in a list are below a number, and a thread is, so are all in the list with this thread
pub members_more : (n : ℕ) (q : List ℕ) (t : ℕ) → t < n → ((u : ℕ) → has q u ≡ true → u < n)
    → (u : ℕ) → has (q ++ t ∷ []) u ≡ true → u < n
members_more n q t fits below u member = grind (arith, nat_tests, more_other q t u, below u)

-- a thread that is not in a list may be appended, and each is in it once
pub once_more : (q : List ℕ) (t : ℕ) → EachOnce q → has q t ≡ false → EachOnce (q ++ t ∷ [])
once_more [] t once absent = grind arith
once_more (u ∷ q) t once absent = grind (arith, nat_tests, more_other q t u, once_more q t)

-- a thread that is not in a list differs from each thread in it
apart_of_has : (q : List ℕ) (t : ℕ) → has q t ≡ false → AllByRecursion (λ y. eqb t y ≡ false) q
apart_of_has [] t absent = tt
apart_of_has (u ∷ q) t absent =
    let (differ, not_in) = or_parts (eqb t u) (has q t) absent in
    (differ, apart_of_has q t not_in)

-- a list that has each thread once has no two equal elements
pub distinct_of_once : (q : List ℕ) → EachOnce q → IsDistinct eqb q
unfolding IsDistinct
distinct_of_once [] o = tt
distinct_of_once (t ∷ q) o = (apart_of_has q t o.0, distinct_of_once q o.1)

-- a thread whose phase is set has this phase
pub at_same : (ps : List Phase) (t : ℕ) (p : Phase) → t < length ps → phase_at (set ps t p) t ≡ p
at_same ps t p h = get_or-set_same ps t p Idle h

-- each other thread keeps its phase
pub at_other : (ps : List Phase) (t u : ℕ) (p : Phase) → u ≢ t
    → phase_at (set ps t p) u ≡ phase_at ps u
at_other ps t u p h = get_or-set_other ps t u p Idle h

-- a property that holds of the new phase and held of the other phases holds of all phases
pub each_phase : (P : ℕ → Phase → Type 0) (ps : List Phase) (t : ℕ) (p : Phase) → t < length ps
    → P t p → ((u : ℕ) → u ≢ t → u < length ps → P u (phase_at ps u)) → (u : ℕ) → u < length ps
    → P u (phase_at (set ps t p) u)
each_phase P ps t p h new old u k =
    elim (eqb_tells u t) [
      | inl e ↦ rw e.1 (rw (at_same ps t p h) new)
      | inr e ↦ rw (at_other ps t u p e.1) (old u e.1 k)
    ]

-- at the start each thread is idle
pub all_idle : (n t : ℕ) → phase_at (replicate n Idle) t ≡ Idle
all_idle n t = elim (cases_lt t n) [
  | inl h ↦ get_or-replicate n t Idle Idle h
  | inr h ↦ get_or_past _ t Idle (omega (arith, length-replicate n Idle))
]
