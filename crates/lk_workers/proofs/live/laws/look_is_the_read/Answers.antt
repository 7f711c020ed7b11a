use Rattle.lk_workers.proofs.LiveEvents.{looks_at}
use Rattle.lk_workers.proofs.live.laws.look_is_the_read.Goals as goal

pub returns : goal.returns
returns c = looks_at
