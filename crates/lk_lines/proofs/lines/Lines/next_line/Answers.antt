-- Each line before the answered one was skipped.
use Rattle.std.proofs.Common.{◌∙◌, refl, rules, sym}
use Rattle.lk_lines.proofs.Skipped.{no_line, skips_more, skips_none, skips_same}
use Rattle.lk_lines.proofs.lines.Lines.next_line.Goals as goal

pub loop-rest-init : goal.loop-rest-init
loop-rest-init c = record {
  skips = skips_none _ _;
  kept = refl;
  fits = c.self.invariant;
}

pub loop-rest-preserved : goal.loop-rest-preserved
loop-rest-preserved c = record {
  skips = skips_more _ _ _ _ _ _ c.loop-rest.invariant.skips c.cut_line.ensures.first
      (sym c.is_skipped.ensures ∙ c.if-not-is_skipped.false);
  kept = c.loop-rest.invariant.kept;
  fits = search rules;
}

pub returns-then-not-is_skipped-clause-found : goal.returns-then-not-is_skipped-clause-found
returns-then-not-is_skipped-clause-found c =
    skips_same _ _ c.self.view_is _ _ _ c.loop-rest.invariant.skips c.cut_line.ensures.first

pub returns-clause-end : goal.returns-clause-end
returns-clause-end c = skips_same _ _ c.self.view_is _ _ _ c.loop-rest.invariant.skips refl

pub returns-clause-none : goal.returns-clause-none
returns-clause-none c = no_line _ (sym c.is_empty.ensures ∙ c.loop-rest-test.false)
