use Rattle.std.proofs.Common.{rules}
use Rattle.lk_workers.proofs.DrawSteps.{splits}
use Rattle.lk_workers.proofs.draws.split_off.Goals as goal

pub split_seat-requires : goal.split_seat-requires
split_seat-requires g c = (search rules, search rules, splits _ _ _ _ (search rules))
