use Rattle.lk_locks.proofs.CallLaws.{acts_are_called}
use Rattle.lk_locks.proofs.theorems.acts_are_called.Goals as goal

pub returns : goal.returns
returns c = acts_are_called
