-- Some history leads to the state after the moves.
use Rattle.lk_page.proofs.Resting.{kept_after}
use Rattle.lk_page.proofs.lock_after.Goals as goal

pub returns-clause-kept : goal.returns-clause-kept
returns-clause-kept c =
    kept_after c.at_start-lock.result c.play_moves-stopped.new.lock _ _ _ _ _
    c.at_start-lock.ensures.recorded c.play_moves-stopped.ensures.played
