use Rattle.lk_locks.proofs.progress.Resting.{no_run_is_stuck}
use Rattle.lk_locks.proofs.theorems.no_run_is_stuck.Goals as goal

pub returns : goal.returns
returns c = no_run_is_stuck
