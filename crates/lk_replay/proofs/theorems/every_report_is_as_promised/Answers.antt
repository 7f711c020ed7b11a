use Rattle.lk_replay.proofs.Promised.{every_report_is_as_promised}
use Rattle.lk_replay.proofs.theorems.every_report_is_as_promised.Goals as goal

pub returns : goal.returns
returns c = every_report_is_as_promised
