use Rattle.lk_workers.proofs.LiveEvents.{passes}
use Rattle.lk_workers.proofs.live.laws.pass_is_the_write.Goals as goal

pub returns : goal.returns
returns c = passes
