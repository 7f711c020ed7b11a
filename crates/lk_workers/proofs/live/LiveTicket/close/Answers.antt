use Rattle.std.proofs.Common.{rules, ap}
use Rattle.lk_workers.proofs.LockStates.{closes, ends}
use Rattle.lk_workers.proofs.live.LiveTicket.close.Goals as goal

pub returns-clause-words : goal.returns-clause-words
returns-clause-words c =
    rw (← c.seat.view_is)
    (ends _ _ _ _ _ _ _ _ (ap (λ m. m.0) c.seat.invariant.0) c.close_with-closed.ensures.values.2
    c.word-next.ensures c.word-serving.ensures)

pub returns-clause-taken : goal.returns-clause-taken
returns-clause-taken c = (closes _ _ _ (returns-clause-words c) (search rules)).1

pub returns-clause-all : goal.returns-clause-all
returns-clause-all c = (closes _ _ _ (returns-clause-words c) (search rules)).2

pub returns-clause-order : goal.returns-clause-order
returns-clause-order c = (closes _ _ _ (returns-clause-words c) (search rules)).0
