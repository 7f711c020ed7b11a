-- The requests' text without its first comma, or that there is none.
use Rattle.std.proofs.Common.{◌++◌, List, ℕ, ap, arith, refl, take}
use Rattle.std.proofs.lemmas.Bool.{iff_false}
use Rattle.lk_replay.proofs.Listing.{none_listed, queue_shown}
use Rattle.lk_replay.proofs.report.lists.Requests.put.Goals as goal

pub returns-then-is_empty-clause-text : goal.returns-then-is_empty-clause-text
returns-then-is_empty-clause-text c =
    rw (
      ← c.self.view_is,
      c.put.ensures.text,
      none_listed _ (c.is_empty.ensures.0 c.if-is_empty.true),
    )
    refl

pub put_rest-requires-clause-some : goal.put_rest-requires-clause-some
put_rest-requires-clause-some c = omega (arith, iff_false c.is_empty.ensures c.if-is_empty.false)

pub returns-else-is_empty-clause-text : goal.returns-else-is_empty-clause-text
returns-else-is_empty-clause-text c =
    rw (← c.self.view_is, c.put_rest.ensures.text)
    (ap (λ (ys : List ℕ). take c.args.at c.args.line.now ++ ys)
    (queue_shown _ _ c.self.invariant.listed
    (omega (arith, iff_false c.is_empty.ensures c.if-is_empty.false))))
