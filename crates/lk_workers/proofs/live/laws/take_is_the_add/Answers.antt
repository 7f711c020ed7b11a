use Rattle.lk_workers.proofs.LiveEvents.{takes}
use Rattle.lk_workers.proofs.live.laws.take_is_the_add.Goals as goal

pub returns : goal.returns
returns c = takes
