-- It is kept with the step before.
use Rattle.std.proofs.Common.{◌≡◌, ℕ, ◌+◌, ◌-◌, ◌≤◌, ◌↔◌, Some, IsTrue, length, sym, ap, ◌∙◌}
use Rattle.std.proofs.Common.{subst, arith}
use Rattle.std.specs.List.{slice_get}
use Rattle.std.proofs.lemmas.List.{length-map}
use Rattle.std.proofs.lemmas.Option.{slice_get-get_or}
use Rattle.lk_order.specs.Orders.{IsQuiet, Ordered}
use Rattle.lk_order.specs.Picked.{line_at, ordered_of}
use Rattle.lk_order.specs.declared.order.Place.{Place}
use Rattle.lk_order.proofs.order.Order.is_quiet_at.Goals as goal

pub returns-else-k-eq0 : goal.returns-else-k-eq0
returns-else-k-eq0 c =
    let a = c.self.inside in
    let k : ℕ = c.args.k in
    let place : Place = c.index.result.now in
    let o : Ordered = ordered_of a.header a.logs.items a.places.items a.checker in
    let same : k - 1 + 1 ≡ k = omega (arith, c.if-k-eq0.false) in
    let inside : k ≤ length o.trace =
    subst (λ (x : Ordered). k ≤ length x.trace) (sym c.self.view_is) c.requires in
    let found : slice_get a.places.items (k - 1) ≡ Some place =
    slice_get-get_or a.places.items (k - 1) place
    (omega (arith, same, inside, length-map a.places.items (line_at a.logs.items)))
    ∙ ap Some (sym c.index.ensures) in
    subst (λ (x : Ordered). IsTrue place.quiet ↔ IsQuiet x k) c.self.view_is
    (subst (λ (n : ℕ). IsTrue place.quiet ↔ IsQuiet o n) same
    (c.self.invariant.quiet (k - 1) place found))
