-- The greatest status of the endings, or a greater one.
use Rattle.std.proofs.Common.{arith}
use Rattle.lk_checks.proofs.cover.cover_traces.Goals as goal

pub returns : goal.returns
returns g c = record {
  endings = c.in_ok-endings.endings.items;
  one_each = omega (arith, c.in_ok-endings.ensures.one_each);
  each = c.in_ok-endings.ensures.each (λ k d h. absurd (omega (arith, h)));
  worst =
      rw (← c.deref-4.ensures.value)
      (rw (← c.worst.ensures) (omega (arith, c.max.ensures)));
}
