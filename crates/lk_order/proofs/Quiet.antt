-- After which steps nobody is in a call or holds: a step more.
use Rattle.std.proofs.Common.{◌≡◌, ℕ, ◌+◌, ◌<◌, ◌↔◌, List, [], ◌∷◌, ◌++◌, Some}
use Rattle.std.proofs.Common.{length, get_or, sym, ap, ◌∙◌, subst, arith, inl, inr}
use Rattle.std.proofs.Common.{length-append, Bool, IsTrue}
use Rattle.std.specs.List.{slice_get}
use Rattle.std.proofs.Math.Seq.{get_or-append_seam}
use Rattle.std.proofs.lemmas.Bool.{cases_lt}
use Rattle.std.proofs.lemmas.List.{take-append-le, take_all, get_or_append_left, length-map}
use Rattle.std.proofs.lemmas.Option.{slice_get_within, get_or_from_slice_get, slice_get-get_or}
use Rattle.lk_trace.specs.Checks.{Checked, lock_with}
use Rattle.lk_trace.specs.Checks.{new_lock}
use Rattle.lk_trace.specs.declared.line.TraceLine.{TraceLine}
use Rattle.lk_order.specs.Orders.{Ordered, IsOrder, AreIdle, IsQuiet, after_lines, with_line}
use Rattle.lk_order.specs.Picked.{line_at, lines_at, KeepsQuiet}
use Rattle.lk_order.specs.declared.order.Place.{Place}

-- the steps before
quiet_before : (o : Ordered) (line : TraceLine) (k : ℕ) (quiet : Bool) → k < length o.trace
    → IsTrue quiet ↔ IsQuiet o (k + 1) → IsTrue quiet ↔ IsQuiet (with_line o line) (k + 1)
quiet_before o line k quiet below is =
    subst (λ (l : List TraceLine). IsTrue quiet
    ↔ AreIdle (after_lines (new_lock o.header) l))
    (sym (take-append-le (k + 1) o.trace (line ∷ []) (omega arith))) is

-- the last step
quiet_last : (o : Ordered) (line : TraceLine) (k : ℕ) (quiet : Bool) → IsOrder (with_line o line)
    → k ≡ length o.trace → IsTrue quiet ↔ AreIdle (lock_with o.lock line)
    → IsTrue quiet ↔ IsQuiet (with_line o line) (k + 1)
quiet_last o line k quiet order last is =
    subst (λ (l : List TraceLine). IsTrue quiet
    ↔ AreIdle (after_lines (new_lock o.header) l))
    (sym (take_all (k + 1) (o.trace ++ line ∷ [])
    (omega (arith, length-append o.trace (line ∷ [])))))
    (subst (λ (c : Checked). IsTrue quiet ↔ AreIdle c) order.lock_is is)

place_before : (places : List Place) (place p : Place) (k : ℕ) → k < length places
    → slice_get (places ++ place ∷ []) k ≡ Some p → slice_get places k ≡ Some p
place_before places place p k below found =
    slice_get-get_or places k p below
    ∙ ap Some (sym (get_or_append_left places (place ∷ []) p k below)
    ∙ get_or_from_slice_get (places ++ place ∷ []) k p p found)

place_last : (places : List Place) (place p : Place) (k : ℕ) → k ≡ length places
    → slice_get (places ++ place ∷ []) k ≡ Some p → place ≡ p
place_last places place p k last found =
    sym (get_or-append_seam places place [] p)
    ∙ ap (λ n. get_or (places ++ place ∷ []) n p) (sym last)
    ∙ get_or_from_slice_get (places ++ place ∷ []) k p p found

pub quiet_more : (o : Ordered) (places : List Place) (line : TraceLine) (place : Place)
    → IsOrder (with_line o line) → o.trace ≡ lines_at o.logs places → KeepsQuiet o places
    → IsTrue place.quiet ↔ AreIdle (lock_with o.lock line)
    → KeepsQuiet (with_line o line) (places ++ place ∷ [])
quiet_more o places line place order was quiet is = λ k p found.
    let long : length o.trace ≡ length places =
    ap length was ∙ length-map places (line_at o.logs) in
    let within : k < length places + 1 =
    omega (
      arith,
      slice_get_within (places ++ place ∷ []) k p found,
      length-append places (place ∷ []),
    ) in
    elim (cases_lt k (length places)) [
      | inl below ↦
          quiet_before o line k p.quiet (omega arith)
          (quiet k p (place_before places place p k below found))
      | inr past ↦
          subst (λ (q : Place). IsTrue q.quiet ↔ IsQuiet (with_line o line) (k + 1))
          (place_last places place p k (omega arith) found)
          (quiet_last o line k place.quiet order (omega arith) is)
    ]
