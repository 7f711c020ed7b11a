-- The ending of each file's trace.
use Rattle.std.proofs.Common.{◌∷◌, [], ap, arith, length, length-append}
use Rattle.lk_text.specs.Sources.{left_in}
use Rattle.lk_text.specs.Verdicts.{EndsInput}
use Rattle.lk_text.proofs.Endings.{one_more}
use Rattle.lk_checks.proofs.cover.take_files.Goals as goal

pub loop-name-preserved : goal.loop-name-preserved
loop-name-preserved g c = record {
  one_each =
      omega (
        arith,
        c.loop-name.invariant.one_each,
        ap length c.in_ok-push.ensures.items,
        length-append c.loop-name.endings.items (c.in_ok-take_file.field-0 ∷ []),
      );
  each = λ all.
      one_more (EndsInput (left_in g.R.File.Read.remaining g.R.Reader.Read.remaining)) _ _ _
      c.in_ok-push.ensures.items (c.loop-name.invariant.each all) c.in_ok-take_file.ensures;
}
