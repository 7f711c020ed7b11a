use Rattle.std.proofs.Common.{rules}
use Rattle.lk_workers.proofs.DrawSteps.{draws}
use Rattle.lk_workers.proofs.draws.Draws.draw.Goals as goal

pub fetch_add-number-requires : goal.fetch_add-number-requires
fetch_add-number-requires c = (search rules, search rules, draws _ _ _ _ (search rules))
