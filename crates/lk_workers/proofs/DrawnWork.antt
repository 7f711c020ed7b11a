-- The numbers drawn, and the seats and reports that come back.
use Rattle.std.proofs.Common.{◌≡◌, ℕ, ◌+◌, ◌-◌, ◌*◌, ◌<◌, ◌≤◌, Vec, Global, List, [], ◌∷◌, ◌++◌}
use Rattle.std.proofs.Common.{cond, length, map, filter, ltb, Bool, true, false, ltb-false, ap₂}
use Rattle.std.proofs.Common.{sym, refl, ap, ◌∙◌, arith, length-append, le-ltb, append-nil}
use Rattle.std.proofs.Common.{inl, inr}
use Rattle.std.proofs.lemmas.Bool.{cases_lt}
use Rattle.std.proofs.Math.Nat.{add-mul}
use Rattle.std.proofs.lemmas.List.Elements.{filter-append}
use mathlib.Core.List.{map-append}
use Rattle.lk_workers.specs.Counting.{occurrences, indicator, IsEachBelow}
use Rattle.lk_workers.proofs.Below.{indicator_here}
use Rattle.lk_workers.proofs.Sums.{sum_over-append}
use Rattle.lk_workers.specs.Drawing.{Counter, Drawer, drawer}
use Rattle.lk_workers.specs.invariants.Collected.{bytes_of, IsDone, report_at, reports_of}
use Rattle.lk_workers.specs.invariants.Collected.{IsThrough, IsEachOnce}

pub past : (texts : List (List ℕ)) (drawn : List ℕ) (x : ℕ) → length texts ≤ x
    → reports_of texts (drawn ++ x ∷ []) ≡ reports_of texts drawn
past texts drawn x h =
    let p : ℕ → Bool = λ k. ltb k (length texts) in
    let f : ℕ → ℕ × List ℕ = λ k. (k, report_at texts k) in
    ap (map f)
    (filter-append p drawn (x ∷ [])
    ∙ ap (λ b. filter p drawn ++ cond b (x ∷ []) []) (le-ltb x (length texts) h)
    ∙ append-nil (filter p drawn))

pub through : (texts : List (List ℕ)) (drawn : List ℕ) (x : ℕ) → length texts ≤ x
    → IsThrough texts (drawn ++ x ∷ [])
through texts drawn x h =
    (x, h, omega (arith, sum_over-append (indicator x) drawn (x ∷ []), indicator_here x))

pub both : (texts : List (List ℕ)) (a b : List ℕ)
    → reports_of texts (a ++ b) ≡ reports_of texts a ++ reports_of texts b
both texts a b =
    let p : ℕ → Bool = λ k. ltb k (length texts) in
    let f : ℕ → ℕ × List ℕ = λ k. (k, report_at texts k) in
    ap (map f) (filter-append p a b) ∙ map-append f (filter p a) (filter p b)

pub through_both : (texts : List (List ℕ)) (a b : List ℕ) → IsThrough texts a
    → IsThrough texts (a ++ b)
through_both texts a b h =
    (h.0, h.1, omega (arith, sum_over-append (indicator h.0) a b, h.2))

pub together : {X : Type 0} (f : X → ℕ × List ℕ) (texts : List (List ℕ)) (ps qs : List X)
    (a b : List ℕ)
    → map f ps ≡ reports_of texts a → map f qs ≡ reports_of texts b
    → map f (ps ++ qs) ≡ reports_of texts (a ++ b)
together f texts ps qs a b h k = map-append f ps qs ∙ ap₂ (λ x y. x ++ y) h k ∙ sym (both texts a b)

-- numbers of texts are kept
kept_occurrences : (n k : ℕ) (drawn : List ℕ) → k < n
    → occurrences k (filter (λ j. ltb j n) drawn) ≡ occurrences k drawn
kept_occurrences n k [] h = refl
kept_occurrences n k (x ∷ xs) h = go (ltb x n) refl (kept_occurrences n k xs h)
  where
    go : (b : Bool) → ltb x n ≡ b → occurrences k (filter (λ j. ltb j n) xs) ≡ occurrences k xs
        → occurrences k (cond b (x ∷ filter (λ j. ltb j n) xs) (filter (λ j. ltb j n) xs))
        ≡ indicator k x + occurrences k xs
    go true e r = ap (λ m. indicator k x + m) r
    go false e r =
        let l = ltb-false x n e in
        let z : indicator k x ≡ 0 = grind arith in
        r ∙ omega arith

-- a number that was drawn is below the word
drawn_below : (drawn : List ℕ) (word x : ℕ) → IsEachBelow word drawn → 1 ≤ occurrences x drawn
    → x < word
drawn_below drawn word x each t = elim (cases_lt x word) [
  | inl low ↦ low
  | inr high ↦ absurd (omega (arith, each.1 x high, t))
]

pub each_once : (texts : List (List ℕ)) (ps : List (ℕ × List ℕ)) (drawn : List ℕ) (word : ℕ)
    → ps ≡ reports_of texts drawn → IsThrough texts drawn → IsEachBelow word drawn
    → IsEachOnce texts ps
each_once texts ps drawn word reports through_all each = (
  drawn,
  reports,
  λ k below.
      let (last, far, some) = through_all in
      kept_occurrences (length texts) k drawn below
      ∙ each.0 k (omega (arith, drawn_below drawn word last each some, far, below)),
)

-- the results of two groups of workers, joined, are the results of all of them
pub done_both : (c : Counter) (texts : List (Vec ℕ Global)) (workers half rest : ℕ)
    (front back s : Drawer) (ps qs all : List (ℕ × Vec ℕ Global))
    → half + rest ≡ workers
    → IsDone c texts half front ps → IsDone c texts rest back qs
    → s ≡ drawer c (front.drawn ++ back.drawn) (front.left + back.left) → all ≡ ps ++ qs
    → IsDone c texts workers s all
done_both c texts workers half rest front back s ps qs all sum f b seat reports =
    let n = length texts + 1 in
    let k = ap (λ m. m * n) (sym sum) ∙ add-mul half rest n in
    let long = length-append front.drawn back.drawn in
    let whole : IsDone c texts workers
    (drawer c (front.drawn ++ back.drawn) (front.left + back.left)) (ps ++ qs) = (
      (refl, refl),
      omega (arith, k, long, f.1, b.1),
      together (λ p. (p.0, p.1.items))
          (bytes_of texts) ps qs front.drawn back.drawn f.2 b.2,
      through_both (bytes_of texts) front.drawn back.drawn f.3,
    ) in rw (seat, reports) whole

-- the draws of all workers are those of some and those of the others
pub shares : (workers half n : ℕ) → half < workers → half * n + (workers - half) * n ≡ workers * n
shares workers half n h =
    let all : half + (workers - half) ≡ workers = omega arith in
    sym (add-mul half (workers - half) n) ∙ ap (λ m. m * n) all
