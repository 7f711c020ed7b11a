-- A round has as many endings as files.
use Rattle.std.proofs.Common.{arith}
use Rattle.lk_checks.proofs.check.check_rounds.Goals as goal

pub loop-rest-preserved : goal.loop-rest-preserved
loop-rest-preserved g c = record {
  one_each =
      omega (
        arith,
        c.loop-rest.invariant.one_each,
        c.in_ok-check_round.ensures.one_each,
        c.split_at.ensures.front_len,
        c.split_at.ensures.back_len,
      );
  each = λ all. c.in_ok-check_round.ensures.each (c.loop-rest.invariant.each all);
}
