use Rattle.lk_workers.proofs.DrawLists.{ends, whole_at_end}
use Rattle.lk_workers.proofs.draws.Draws.close.Goals as goal

pub returns-clause-word : goal.returns-clause-word
returns-clause-word c =
    rw (← c.seat.view_is, ← c.self.view_is)
    (ends _ _ _ _ _ _ _ c.close_with-closed.ensures.values.2 c.word-word.ensures c.seat.invariant.0)

pub returns-clause-each : goal.returns-clause-each
returns-clause-each c = rw (← c.seat.view_is, ← c.self.view_is) (whole_at_end _ _ _ _
    (ends _ _ _ _ _ _ _ c.close_with-closed.ensures.values.2 c.word-word.ensures
    c.seat.invariant.0))
