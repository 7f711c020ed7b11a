use Rattle.std.proofs.Common.{◌+◌, ◌*◌}
use Rattle.lk_workers.proofs.many.+fn-work_all-join+arg2+fn-work_all-join+arg3+work_all.Given as goal

abbrev pub decreases-join+arg2 : goal.decreases-join+arg2
decreases-join+arg2 g l = 2 * l.half + 1

abbrev pub decreases-join+arg3 : goal.decreases-join+arg3
decreases-join+arg3 g l = 2 * l.rest + 1

abbrev pub decreases-work_all : goal.decreases-work_all
decreases-work_all g l = 2 * l.workers
