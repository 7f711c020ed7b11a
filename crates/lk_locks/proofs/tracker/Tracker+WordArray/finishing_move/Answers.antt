use Rattle.lk_locks.proofs.progress.Resting.{none_at_rest}
use Rattle.lk_locks.proofs.tracker.Tracker+WordArray.finishing_move.Goals as goal

pub returns-clause-none : goal.returns-clause-none
returns-clause-none c =
    rw (← c.self.view_is)
    (none_at_rest c.self.inside.machine c.self.inside.sequential c.finishing_move.result
    c.self.invariant c.finishing_move.ensures.finishing c.finishing_move.ensures.none)
