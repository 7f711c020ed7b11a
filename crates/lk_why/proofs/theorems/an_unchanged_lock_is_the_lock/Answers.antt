use Rattle.lk_why.proofs.Unchanged.{is_the_lock}
use Rattle.lk_why.proofs.theorems.an_unchanged_lock_is_the_lock.Goals as goal

pub returns : goal.returns
returns c = is_the_lock
