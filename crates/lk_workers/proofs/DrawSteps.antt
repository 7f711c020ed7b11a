-- Each step of the draw counter keeps its rule.
use Rattle.std.proofs.Common.{◌≡◌, ℕ, ◌+◌, ◌-◌, ◌%◌, ◌^◌, ◌<◌, ◌≤◌, List, [], ◌∷◌, ◌++◌, length}
use Rattle.std.proofs.Common.{get_or, All, set, sym, refl, ap, ◌∙◌, subst, arith, length-set}
use Rattle.std.proofs.Common.{length-append, get_or-set_same}
use mathlib.Core.Option.{none, some}
use lib.ListN.{get_elem?}
use Rattle.std.proofs.lemmas.List.{set-get_or}
use Rattle.atomic_table.specs.Table.{State, step, keeps, Allows, Splits, Joins}
use Rattle.atomic_table.proofs.Lists.{set_again}
use Rattle.lk_workers.specs.declared.draws.DrawView.{DrawView}
use Rattle.lk_workers.specs.Counting.{indicator, occurrences, once_below, IsEachBelow}
use Rattle.lk_workers.specs.invariants.DrawRule.{Drawn, DrawFinds, DrawSees, InspectFinds}
use Rattle.lk_workers.specs.invariants.DrawRule.{draw_view}
use Rattle.lk_workers.proofs.Sums.{sum_over-cut, sum_over-two, sum_over-set, sum_over-append}
use Rattle.lk_workers.proofs.Sums.{at_most_sum, sum_over-both, alone_at}
use Rattle.lk_workers.proofs.Below.{below_suc, below_of, all_below, each_below}

-- each number of a seat's list is below the word
pub below_word : (all : ℕ) (s : State (Unit {0}) DrawView) (id : ℕ) (v : DrawView) → Drawn all s
    → get_elem? s.views id ≡ some v → All (λ x. x < get_or s.words 0 0) v.drawn
below_word all s id v r at = all_below (get_or s.words 0 0) v.drawn
    (λ x t. below_of x (get_or s.words 0 0)
    (omega (
      arith,
      at_most_sum (λ (u : DrawView). occurrences x u.drawn) s.views id v at,
      r.once x,
    )))

pub draws : (all slots id : ℕ) (me : DrawSees) → 0 < me.0.left
    → Allows (Drawn all) slots id me 0 (λ n. (n + 1) % 2 ^ 64)
    (DrawFinds (step slots 0 1 0 none) me)
draws all slots id me some_left s r _ at _ =
    let v : DrawView = me.0 in
    let n : ℕ = get_or s.words 0 0 in
    let w : DrawView = draw_view (v.drawn ++ n ∷ []) (v.left - 1) v.draws in
    let few = r.few in
    let sum = r.all in
    let low = at_most_sum (λ (u : DrawView). u.left) s.views id v at in
    let next : (n + 1) % 2 ^ 64 ≡ n + 1 = omega arith in
    let word : get_or (set s.words 0 ((n + 1) % 2 ^ 64)) 0 0 ≡ n + 1 =
    get_or-set_same s.words 0 _ 0 (let one = r.one_word in omega arith) ∙ next in (
      w,
      keeps,
      tt,
      record {
        one_word = length-set s.words 0 _ ∙ r.one_word;
        once = λ x. (
            let c = sum_over-set (λ (u : DrawView). occurrences x u.drawn) s.views id v w at in
            let d = sum_over-append (indicator x) v.drawn (n ∷ []) in
            let e = r.once x in
            let f : once_below x (n + 1) ≡ once_below x n + indicator x n = below_suc x n in
            omega arith ∙ ap (once_below x) (sym word));
        many = (
            let c = sum_over-set (λ (u : DrawView). length u.drawn) s.views id v w at in
            let d = length-append v.drawn (n ∷ []) in
            let e = r.many in
            omega arith);
        all = omega (arith, sum_over-set (λ (u : DrawView). u.left) s.views id v w at);
        few = few;
      },
      (
        refl,
        omega (arith, at_most_sum (λ (u : DrawView). length u.drawn) s.views id v at, r.many),
        below_word all s id v r at,
      ),
    )

pub splits : (all id : ℕ) (v : DrawView) (a : ℕ) → a ≤ v.left
    → Splits (Drawn all) id v (draw_view v.drawn (v.left - a) v.draws) (draw_view [] a v.draws)
splits all id v a low s r at =
    let l : DrawView = draw_view v.drawn (v.left - a) v.draws in
    let n : DrawView = draw_view [] a v.draws in
    record {
      one_word = r.one_word;
      once = λ x.
          sum_over-cut (λ (u : DrawView). occurrences x u.drawn) s.views id v l n at (omega arith)
          ∙ r.once x;
      many =
          sum_over-cut (λ (u : DrawView). length u.drawn) s.views id v l n at (omega arith)
          ∙ r.many;
      all =
          let c = sum_over-cut (λ (u : DrawView). u.left) s.views id v l n at (omega arith) in
          omega (arith, r.all);
      few = r.few;
    }

pub joins : (all id : ℕ) (v : DrawView) (other : ℕ) (w : DrawView)
    → Joins (Drawn all) id v other w (draw_view (v.drawn ++ w.drawn) (v.left + w.left) v.draws)
    (draw_view [] 0 0)
joins all id v other w s r at two there =
    let b : DrawView = draw_view (v.drawn ++ w.drawn) (v.left + w.left) v.draws in
    let o : DrawView = draw_view [] 0 0 in
    record {
      one_word = r.one_word;
      once = λ x. (
          let f : DrawView → ℕ = λ u. occurrences x u.drawn in
          let g = sum_over-append (indicator x) v.drawn w.drawn in
          sum_over-two f s.views id other v w b o at there (omega arith) ∙ r.once x);
      many = (
          let f : DrawView → ℕ = λ u. length u.drawn in
          let g = length-append v.drawn w.drawn in
          sum_over-two f s.views id other v w b o at there (omega arith) ∙ r.many);
      all =
          let f : DrawView → ℕ = λ u. u.left in
          omega (arith, sum_over-two f s.views id other v w b o at there (omega arith), r.all);
      few = r.few;
    }

no_occurrences : (x : ℕ) (xs : List ℕ) → length xs ≡ 0 → occurrences x xs ≡ 0
no_occurrences x [] e = refl
no_occurrences x (y ∷ ys) e = absurd (omega arith)

-- a seat with all draws has all numbers
pub whole : (all id : ℕ) (v : DrawView) (s : State (Unit {0}) DrawView) → Drawn all s
    → get_elem? s.views id ≡ some v → length v.drawn + v.left ≡ all
    → IsEachBelow (get_or s.words 0 0) v.drawn
whole all id v s r at is = each_below (get_or s.words 0 0) v.drawn
    (λ x. let f : DrawView → ℕ = λ u. length u.drawn + u.left in
    let g : DrawView → ℕ = λ u. occurrences x u.drawn in
    let both =
    sum_over-both (λ (u : DrawView). length u.drawn) (λ (u : DrawView). u.left) s.views in
    let m = r.many in
    let a = r.all in
    let only =
    alone_at f g s.views
    (λ j u _ e. no_occurrences x u.drawn (omega arith)) id v at (omega arith) in
    sym only ∙ r.once x)

pub inspects : (all slots id : ℕ) (me : DrawSees)
    → Allows (Drawn all) slots id me 0 (λ n. n) (InspectFinds (step slots 0 0 0 none) me)
inspects all slots id me s r _ at _ =
    let v : DrawView = me.0 in
    let low = at_most_sum (λ (u : DrawView). u.left) s.views id v at in
    let sum = r.all in
    let few = r.few in (
      v,
      keeps,
      tt,
      subst (Drawn all) (λ k. record {
        words = sym (set-get_or s.words 0 0) k;
        homes = s.homes;
        views = sym (set_again s.views id v at) k;
      }) r,
      (refl, omega arith),
    )
