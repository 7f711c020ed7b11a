-- The ending of each file's report.
use Rattle.std.proofs.Common.{◌∷◌, [], ap, arith, length, length-append}
use Rattle.lk_text.specs.Sources.{left_in}
use Rattle.lk_text.specs.Verdicts.{EndsInput}
use Rattle.lk_text.proofs.Endings.{one_more}
use Rattle.lk_checks.proofs.check.check_each.Goals as goal

pub loop-name-preserved : goal.loop-name-preserved
loop-name-preserved g c = record {
  one_each =
      omega (
        arith,
        c.loop-name.invariant.one_each,
        ap length c.in_ok-put.ensures,
        length-append c.loop-name.reports.endings.items (c.in_ok-report.report.ending ∷ []),
      );
  each = λ all.
      one_more (EndsInput (left_in g.R.File.Read.remaining g.R.Reader.Read.remaining)) _ _ _
      c.in_ok-put.ensures (c.loop-name.invariant.each all) c.in_ok-report.ensures;
}
