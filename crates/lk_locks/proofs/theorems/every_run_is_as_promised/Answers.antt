use Rattle.lk_locks.proofs.Runs.{every_run_is_as_promised}
use Rattle.lk_locks.proofs.theorems.every_run_is_as_promised.Goals as goal

pub returns : goal.returns
returns c = every_run_is_as_promised
