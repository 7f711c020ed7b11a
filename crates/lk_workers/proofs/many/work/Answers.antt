use Rattle.std.proofs.Common.{arith, length, length-append, ◌≤◌, [], ◌∷◌, sym, refl, ◌∙◌}
use lib.ListN.{length-map}
use Rattle.lk_workers.specs.invariants.Collected.{bytes_of}
use Rattle.lk_workers.proofs.DrawnWork.{past, through}
use Rattle.lk_workers.proofs.many.work.Goals as goal

pub returns-then-number-texts : goal.returns-then-number-texts
returns-then-number-texts g c =
    let texts = bytes_of c.args.texts.now in
    let n = c.draw-number.result in
    let i = c.loop-alloc.invariant in
    let drawn = c.loop-alloc.seat.drawn in
    let far : length texts ≤ n =
    (let t = c.if-number-texts.true in
    omega (arith, length-map c.args.texts.now (λ t. t.items))) in
    rw c.draw-number.ensures.seat (
      (refl, refl),
      (let long = length-append drawn (n ∷ []) in omega (arith, i.1, i.2)),
      i.3 ∙ sym (past texts drawn n far),
      through texts drawn n far,
    )
