use Rattle.std.proofs.Common.{rules}
use Rattle.lk_workers.proofs.DrawSteps.{joins, inspects}
use Rattle.lk_workers.proofs.draws.Draws.join.Goals as goal

pub join_seat-requires : goal.join_seat-requires
join_seat-requires c = (search rules, search rules, search rules, search rules, joins _ _ _ _ _)

pub load-requires : goal.load-requires
load-requires c = (search rules, search rules, inspects _ _ _ _)
