use Rattle.lk_workers.proofs.LiveEvents.{reads}
use Rattle.lk_workers.proofs.live.laws.read_serving_is_the_read.Goals as goal

pub returns : goal.returns
returns c = reads
