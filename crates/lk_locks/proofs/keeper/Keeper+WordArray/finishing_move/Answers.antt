use Rattle.lk_locks.proofs.keeper.Keeper+WordArray.finishing_move.Goals as goal

pub returns-clause-none : goal.returns-clause-none
returns-clause-none c = rw (← c.self.view_is) c.finishing_move.ensures.none
