use Rattle.std.proofs.Common.{below_more}
use Rattle.lk_locks.proofs.machine.Machine+WordArray.finishing_move.Goals as goal

pub loop-t-preserved : goal.loop-t-preserved
loop-t-preserved c = below_more _ _ c.loop-t.invariant c.in_default.ensures.none
