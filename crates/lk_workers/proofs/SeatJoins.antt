-- Splits and joins of seats keep the rule of the running ticket lock.
use Rattle.std.proofs.Common.{◌≡◌, ℕ, ◌+◌, ◌≤◌, max, List, [], ◌∷◌, ◌++◌, set, map, take}
use Rattle.std.proofs.Common.{drop, sym, refl, ap, ◌∙◌, subst, arith, ⊎_elim}
use mathlib.Core.Option.{some}
use lib.ListN.{get_elem?}
use Rattle.atomic_table.specs.Table.{Splits, Joins}
use Rattle.atomic_table.proofs.Lists.{at_set, at_snoc}
use Rattle.lk_workers.specs.declared.live.LivePhase.TheVariants.{Idle}
use Rattle.lk_workers.specs.declared.live.rule.SeatState.{SeatState}
use Rattle.lk_workers.specs.Counting.{sum_over}
use Rattle.lk_workers.specs.Seats.{next_of, serving_of, ticket_indicator, ticket_indicator_in}
use Rattle.lk_workers.specs.SeatSteps.{rest_of, share_of, merge_of, pair_of}
use Rattle.lk_workers.specs.invariants.Running.{Fits, ViewFits, Running}
use Rattle.lk_workers.proofs.Sums.{sum_over-cut, sum_over-two}
use Rattle.lk_workers.proofs.SeatMoves.{running_at, views_set}

-- a view becomes two lists of seats, which have together what it had
two_lists : (takes id : ℕ) (v l b : List SeatState)
    → ((x : ℕ) → sum_over (ticket_indicator x) l + sum_over (ticket_indicator x) b
    ≡ sum_over (ticket_indicator x) v)
    → sum_over (λ u. u.taken) l + sum_over (λ u. u.taken) b ≡ sum_over (λ u. u.taken) v
    → sum_over (λ u. u.left) l + sum_over (λ u. u.left) b ≡ sum_over (λ u. u.left) v
    → ((m : ℕ) → ViewFits m v → ViewFits m l × ViewFits m b)
    → Splits (Running takes) id v l b
two_lists takes id v l b hs ts ls fits s h at =
    let vs : List (List SeatState) = s.views in
    let m : ℕ = serving_of s in
    let both = fits m (h.seats id v at) in
    running_at takes (record { words = s.words; homes = s.homes; views = set vs id l ++ b ∷ [] })
    (next_of s) m h.two_words refl refl h.served
    (λ x. let c = sum_over-cut (sum_over (ticket_indicator x)) vs id v l b at (hs x) in
    omega (arith, h.tickets x))
    (λ j u e. ⊎_elim
    (λ x. views_set (ViewFits m) vs id l both.0 (λ j u _ e. h.seats j u e) j u x)
    (λ (x : b ≡ u). subst (ViewFits m) x both.1) (at_snoc (set vs id l) b u j e))
    (sum_over-cut (sum_over (λ u. u.taken)) vs id v l b at ts ∙ h.taken)
    (omega (arith, sum_over-cut (sum_over (λ u. u.left)) vs id v l b at ls, h.left))

pub splits : (takes id a : ℕ) (v : List SeatState) (r : SeatState) → v ≡ r ∷ [] → a ≤ r.left
    → Splits (Running takes) id v (map (rest_of a) v) (map (share_of a) v)
splits takes id a v r is low =
    subst (λ u. Splits (Running takes) id u (map (rest_of a) u) (map (share_of a) u)) (sym is)
    (two_lists takes id (r ∷ []) (rest_of a r ∷ []) (share_of a r ∷ [])
    (λ x. omega arith) (omega arith) (omega arith)
    (λ m old. (((old.0.0, tt), omega arith), (((tt, old.0.0.1), tt), omega arith))))

pub unpairs : (takes id : ℕ) (v : List SeatState) (r q : SeatState) → v ≡ r ∷ q ∷ []
    → Splits (Running takes) id v (take 1 v) (drop 1 v)
unpairs takes id v r q is =
    subst (λ u. Splits (Running takes) id u (take 1 u) (drop 1 u)) (sym is)
    (two_lists takes id (r ∷ q ∷ []) (r ∷ []) (q ∷ []) (λ x. omega arith) (omega arith)
    (omega arith) (λ m old. (((old.0.0, tt), omega arith), (old.0.1, omega arith))))

-- two seats become the one list of seats b, which has what both had
one_list : (takes id other : ℕ) (r q : SeatState) (b : List SeatState)
    → ((x : ℕ) → sum_over (ticket_indicator x) b ≡ ticket_indicator x r + ticket_indicator x q)
    → sum_over (λ u. u.taken) b ≡ r.taken + q.taken → sum_over (λ u. u.left) b ≡ r.left + q.left
    → ((m : ℕ) → Fits m r → Fits m q → ViewFits m b)
    → Joins (Running takes) id (r ∷ []) other (q ∷ []) b []
one_list takes id other r q b hs ts ls fits s h at two there =
    let vs : List (List SeatState) = s.views in
    let bs : List (List SeatState) = set vs id b in
    let m : ℕ = serving_of s in
    let theirs : get_elem? vs other ≡ some (q ∷ []) =
    ⊎_elim (λ x. absurd (two x.0)) (λ x. x.1) (at_set vs id other b (q ∷ []) there) in
    let mine = h.seats id (r ∷ []) at in let its = h.seats other (q ∷ []) theirs in
    running_at takes (record { words = s.words; homes = s.homes; views = set bs other [] })
    (next_of s) m h.two_words refl refl h.served
    (λ x. let c = sum_over-two (sum_over (ticket_indicator x)) vs id other (r ∷ []) (q ∷ []) b []
    at there (omega (arith, hs x)) in
    omega (arith, h.tickets x))
    (views_set (ViewFits m) bs other [] (tt, omega arith) (λ j u _ e. views_set (ViewFits m) vs id b
    (fits m mine.0.0 its.0.0) (λ j u _ e. h.seats j u e) j u e))
    (sum_over-two (sum_over (λ u. u.taken)) vs id other (r ∷ []) (q ∷ []) b [] at there
    (omega arith)
    ∙ h.taken)
    (let c = sum_over-two (sum_over (λ u. u.left)) vs id other (r ∷ []) (q ∷ []) b [] at there
    (omega arith) in
    omega (arith, h.left))

pub merges : (takes id other : ℕ) (v w : List SeatState) (r q : SeatState) → v ≡ r ∷ [] → w ≡ q ∷ []
    → r.phase ≡ Idle → q.phase ≡ Idle → Joins (Running takes) id v other w (merge_of v w) []
merges takes id other v w r q is are idle idle' = subst (λ (z : List SeatState × List SeatState).
    Joins (Running takes) id z.0 other z.1 (merge_of z.0 z.1) [])
    (λ k. (sym is k, sym are k))
    (one_list takes id other r q (merge_of (r ∷ []) (q ∷ []))
    (λ x. let a : ticket_indicator x r ≡ 0 = ap (λ p. ticket_indicator_in x p r.ticket) idle in
    let b : ticket_indicator x q ≡ 0 = ap (λ p. ticket_indicator_in x p q.ticket) idle' in
    omega arith)
    (omega arith) (omega arith)
    (λ m f g. (((tt, omega (arith, f.1, g.1)), tt), omega arith)))

pub pairs : (takes id other : ℕ) (v w : List SeatState) (r q : SeatState) → v ≡ r ∷ [] → w ≡ q ∷ []
    → Joins (Running takes) id v other w (pair_of v w) []
pairs takes id other v w r q is are = subst (λ (z : List SeatState × List SeatState).
    Joins (Running takes) id z.0 other z.1 (pair_of z.0 z.1) [])
    (λ k. (sym is k, sym are k))
    (one_list takes id other r q (pair_of (r ∷ []) (q ∷ []))
    (λ x. omega arith) (omega arith) (omega arith)
    (λ m f g. let l : max r.seen q.seen ≤ m = omega (arith, f.1, g.1) in
    (((f.0, l), ((g.0, l), tt)), omega arith)))
