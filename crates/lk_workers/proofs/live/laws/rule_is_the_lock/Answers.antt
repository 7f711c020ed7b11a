use Rattle.lk_workers.proofs.LockStates.{lock_state, others_stay}
use Rattle.lk_workers.proofs.live.laws.rule_is_the_lock.Goals as goal

pub returns-clause-state : goal.returns-clause-state
returns-clause-state c = lock_state

pub returns-clause-dropped : goal.returns-clause-dropped
returns-clause-dropped c = others_stay
