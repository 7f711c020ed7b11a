-- Each turn makes one finishing move more.
use Rattle.std.proofs.Common.{◌∙◌, arith, refl}
use Rattle.std.proofs.lemmas.List.{length-set}
use Rattle.lk_page.proofs.Resting.{one_made, tracker_on}
use Rattle.lk_page.proofs.finishing.make_finishing.Goals as goal

pub loop-count-preserved : goal.loop-count-preserved
loop-count-preserved c =
    let l = c.loop-count in
    let size = length-set l.codes l.count c.code_of.result in
    record {
      made =
          one_made c.args.lock.now.state l.lock.state _ l.count c.args.codes.now l.codes _ _ _ _
          l.invariant.made (omega (arith, c.loop-count-test.true, l.invariant.size))
          c.in-Some.ensures.finishing (tracker_on l.lock _ _ _ c.play-made.ensures.after)
          c.code_of.ensures refl;
      size = size ∙ l.invariant.size;
      few = omega (arith, c.loop-count-test.true, size);
    }
