-- The record of an order stays true when a line is placed, and when none is.
use Rattle.std.proofs.Common.{◌≡◌, ℕ, ◌+◌, ◌<◌, List, [], ◌∷◌, ◌++◌, Option, Some, None, Ok}
use Rattle.std.proofs.Common.{Err, length, map, get_or, set, refl, sym, ap, ap₂, ◌∙◌, subst, arith}
use Rattle.std.proofs.Common.{◌↔◌, IsTrue, inl, inr}
use Rattle.std.specs.List.{All, slice_get}
use Rattle.std.proofs.lemmas.Bool.{cases_lt}
use Rattle.std.proofs.lemmas.List.{get_or_past, map-append, length-map}
use Rattle.std.proofs.lemmas.List.Elements.{All-append, All-cons, All-nil}
use Rattle.std.proofs.lemmas.Option.{slice_get_within, get_or_from_slice_get}
use Rattle.lk_trace.specs.Agreement.{Agrees}
use Rattle.lk_trace.specs.Checks.{Checked, lock_with, difference_of, after_line, answer_to}
use Rattle.lk_trace.specs.Checks.{unless_other, answer_unless}
use Rattle.lk_trace.specs.declared.checker.Made.{Made}
use Rattle.lk_trace.specs.declared.difference.Difference.{Difference}
use Rattle.lk_trace.specs.declared.line.TraceLine.{TraceLine}
use Rattle.lk_order.specs.Logs.{ThreadLog}
use Rattle.lk_order.specs.Runs.{moves_of}
use Rattle.lk_order.specs.Orders.{Ordered, IsOrder, placed_of, next_line, with_line, after_next}
use Rattle.lk_order.specs.Orders.{AreIdle}
use Rattle.lk_order.specs.Picked.{no_line, line_at, lines_at, IsInside, IsKept, KeepsQuiet}
use Rattle.lk_order.specs.declared.order.Place.{Place}
use Rattle.lk_order.proofs.Placing.{order_more, counted_more}
use Rattle.lk_order.proofs.Quiet.{quiet_more}

-- a line that differs changes nothing
is_difference : (other : Option Difference) (made : Made) (difference : Difference)
    → Err difference ≡ answer_unless other made → other ≡ Some difference
is_difference None made difference is = cc
is_difference (Some d) made difference is = cc

pub differs : (c : Checked) (line : TraceLine) (difference : Difference)
    → Err difference ≡ answer_to c line → difference_of c line ≡ Some difference
differs c line difference is = is_difference (difference_of c line) _ difference is

pub unmoved : (c : Checked) (line : TraceLine) (difference : Difference)
    → Err difference ≡ answer_to c line → after_line c line ≡ c
unmoved c line difference is =
    ap (λ d. unless_other d (lock_with c line) c) (differs c line difference is)

no_difference : (other : Option Difference) (made answer : Made)
    → Ok answer ≡ answer_unless other made → other ≡ None
no_difference None made answer is = refl
no_difference (Some d) made answer is = cc

pub agrees : (c : Checked) (line : TraceLine) (made : Made) → Ok made ≡ answer_to c line
    → difference_of c line ≡ None
agrees c line made is = no_difference (difference_of c line) _ made is

pub moved : (c : Checked) (line : TraceLine) (made : Made) → Ok made ≡ answer_to c line
    → after_line c line ≡ lock_with c line
moved c line made is = ap (λ d. unless_other d (lock_with c line) c) (agrees c line made is)

-- a thread with a next line is one of the lock's
pub below_threads : (o : Ordered) (t : ℕ) (line : TraceLine) → IsOrder o → next_line o t ≡ Some line
    → t < o.header.threads
below_threads o t line order next =
    let moves_in = λ (log : ThreadLog). log.moves in
    elim (cases_lt t (length (map moves_in o.logs))) [
      | inl below ↦ omega (arith, length-map o.logs moves_in, order.run.one_each)
      | inr past ↦
          let none : moves_of o.logs t ≡ [] = get_or_past (map moves_in o.logs) t [] past in
          omega (arith, ap length none, slice_get_within (moves_of o.logs t) _ line next)
    ]

-- the place of the next line has that line
line_is : (o : Ordered) (t : ℕ) (line : TraceLine) (place : Place) → next_line o t ≡ Some line
    → place.thread ≡ t → place.at ≡ placed_of o t → line_at o.logs place ≡ line
line_is o t line place next thread at =
    ap₂ (λ (u k : ℕ). get_or (moves_of o.logs u) k no_line) thread at
    ∙ get_or_from_slice_get (moves_of o.logs t) (placed_of o t) line no_line next

inside_is : (o : Ordered) (t : ℕ) (line : TraceLine) (place : Place) → next_line o t ≡ Some line
    → place.thread ≡ t → place.at ≡ placed_of o t → IsInside o.logs place
inside_is o t line place next thread at =
    subst (λ (u : ℕ). place.at < length (moves_of o.logs u)) (sym thread)
    (subst (λ (k : ℕ). k < length (moves_of o.logs t)) (sym at)
    (slice_get_within (moves_of o.logs t) (placed_of o t) line next))

-- a place more is a line more
pub trace_more : (o : Ordered) (places places' : List Place) (t : ℕ) (line : TraceLine)
    (place : Place)
    → o.trace ≡ lines_at o.logs places → places' ≡ places ++ place ∷ []
    → next_line o t ≡ Some line → place.thread ≡ t → place.at ≡ placed_of o t
    → lines_at o.logs places' ≡ o.trace ++ line ∷ []
trace_more o places places' t line place was more next thread at =
    ap (lines_at o.logs) more ∙ map-append (line_at o.logs) places (place ∷ [])
    ∙ ap₂ (λ (a : List TraceLine) (l : TraceLine). a ++ l ∷ []) (sym was)
    (line_is o t line place next thread at)

pub kept_more : (o : Ordered) (places places' : List Place) (at : List ℕ) (t : ℕ) (line : TraceLine)
    (place : Place)
    → IsKept o places at
    → places' ≡ places ++ place ∷ [] → next_line o t ≡ Some line → line.thread ≡ t → t < 256
    → length at ≡ 256
    → Agrees o.lock line → place.thread ≡ t → place.at ≡ get_or at t 0
    → o.trace ≡ lines_at o.logs places → IsTrue place.quiet ↔ AreIdle (lock_with o.lock line)
    → IsKept (with_line o line) places' (set at t (get_or at t 0 + 1))
kept_more o places places' at t line place kept more next own small long agrees thread where_at was
    idle =
    let at_is : place.at ≡ placed_of o t = where_at ∙ kept.counted t small in
    let next_own : next_line o line.thread ≡ Some line = ap (next_line o) own ∙ next in
    let below : line.thread < o.header.threads =
    below_threads o line.thread line kept.order next_own in
    let order = order_more o line kept.order next_own below agrees in
    record {
      order = order;
      own = kept.own;
      inside =
          subst (All (IsInside o.logs)) (sym more)
          (All-append (IsInside o.logs) places (place ∷ []) kept.inside (All-cons (IsInside o.logs)
          place [] (inside_is o t line place next thread at_is) (All-nil (IsInside o.logs))));
      quiet =
          subst (KeepsQuiet (with_line o line)) (sym more)
          (quiet_more o places line place order was kept.quiet idle);
      counted = subst (λ (u : ℕ). (k : ℕ) → k < 256
          → get_or (set at u (get_or at u 0 + 1)) k 0 ≡ placed_of (with_line o line) k) own
          (counted_more o line at long (omega (arith, own)) kept.counted);
    }

-- the answer to the next line
pub after_placed : (o : Ordered) (t : ℕ) (line : TraceLine) (made : Made)
    → next_line o t ≡ Some line → Ok made ≡ answer_to o.lock line
    → with_line o line ≡ after_next o (next_line o t)
after_placed o t line made next is =
    sym (ap (after_next o) next
    ∙ ap (λ d. unless_other d (with_line o line) o) (agrees o.lock line made is))

pub after_different : (o : Ordered) (t : ℕ) (line : TraceLine) (difference : Difference)
    → next_line o t ≡ Some line → Err difference ≡ answer_to o.lock line
    → o ≡ after_next o (next_line o t)
after_different o t line difference next is =
    sym (ap (after_next o) next
    ∙ ap (λ d. unless_other d (with_line o line) o) (differs o.lock line difference is))
