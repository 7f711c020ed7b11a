use Rattle.std.proofs.Common.{rules, length, ◌+◌}
use Rattle.lk_workers.proofs.DrawnWork.{shares}
use Rattle.lk_workers.proofs.many.deal.Goals as goal

pub returns-clause-kept : goal.returns-clause-kept
returns-clause-kept c =
    let e = shares c.args.workers c.args.half (length c.args.texts.now + 1) c.requires.half.1 in
    search rules

pub split-requires-clause-left : goal.split-requires-clause-left
split-requires-clause-left c =
    let e = shares c.args.workers c.args.half (length c.args.texts.now + 1) c.requires.half.1 in
    search rules
