-- The rule of the draw counter, in the terms of its lists.
use Rattle.std.proofs.Common.{◌≡◌, ℕ, ◌+◌, List, length, get_or, refl, ap, ap₂, subst₂, ◌∙◌, arith}
use mathlib.Core.Option.{some}
use lib.ListN.{get_elem?}
use Rattle.std.specs.List.{flat_map}
use Rattle.atomic_table.specs.Table.{State, Final, Seen}
use Rattle.lk_workers.specs.declared.draws.DrawView.{DrawView}
use Rattle.lk_workers.specs.Counting.{occurrences, IsEachBelow}
use Rattle.lk_workers.specs.invariants.DrawRule.{Drawn}
use Rattle.lk_workers.specs.Drawing.{word_of, DrawState, IsEnd}
use Rattle.lk_workers.proofs.Sums.{two_there, word_at}
use Rattle.lk_workers.proofs.Below.{each_below, occurrences-flat_map, at_most_once}
use Rattle.lk_workers.proofs.DrawSteps.{below_word, whole}

pub draw_state : (draws : ℕ) (s : State (Unit {0}) DrawView) → Drawn draws s → DrawState draws s
draw_state draws s r = record {
  numbers =
      each_below (word_of s) (flat_map (λ v. v.drawn) s.views)
      (λ x. occurrences-flat_map (λ (v : DrawView). v.drawn) x s.views ∙ r.once x);
  all = r.all;
  apart = λ i j v w x n at there t. (
      let a = two_there (λ (u : DrawView). occurrences x u.drawn) s.views i j v w n at there in
      let b = r.once x in
      let c = at_most_once x (word_of s) in
      omega arith);
  greater = λ i v at. below_word draws s i v r at;
  whole = λ i v at is. whole draws i v s r at is;
}

-- the last state
pub ends : (draws id : ℕ) (v : DrawView) (words : List ℕ) (slots : List (Unit {0})) (n left : ℕ)
    → Final (Seen (Drawn draws) id v) words slots → get_elem? words 0 ≡ some n → v.left ≡ left
    → IsEnd draws n v.drawn left
ends draws id v words slots n left h word is = (
  h.0,
  draw_state draws h.0 h.1.0,
  ap (λ (ws : List ℕ). get_or ws 0 0) h.2 ∙ word_at words 0 n word,
  (id, v, h.1.1, refl, is),
)

-- at the end a seat with all draws has all numbers
pub whole_at_end : (draws word left : ℕ) (drawn : List ℕ) → IsEnd draws word drawn left
    → length drawn + left ≡ draws → IsEachBelow word drawn
whole_at_end draws word left drawn (s, h, is, (id, v, at, same, rest)) all =
    subst₂ IsEachBelow is same
    (h.whole id v at (ap₂ (λ xs n. length xs + n) same rest ∙ all))
