use Rattle.lk_workers.proofs.DrawLists.{draw_state}
use Rattle.lk_workers.proofs.draws.each_number_once.Goals as goal

pub returns : goal.returns
returns c = draw_state
