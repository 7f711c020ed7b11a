-- After the first letters comes the name of a schedule.
use Rattle.std.proofs.Common.{◌≡◌, ◌++◌, rules, codes}
use Rattle.lk_jobs.specs.FileNames.{of_order}
use Rattle.lk_jobs.proofs.folder.is_own_name.Goals as goal

pub returns-then-eq-2 : goal.returns-then-eq-2
returns-then-eq-2 c =
    let parts : c.args.name.now ≡ codes "run-" ++ c.split_at.result.1.now = search rules in
    λ is. of_order c.split_at.result.1.now parts (c.is_schedule_name.ensures is)
