-- The place is that of `unreadable_from`, of which the law is proved.
use Rattle.lk_lines.proofs.Expectations.{moves_are_readable}
use Rattle.lk_lines.proofs.unreadable.unreadable_move.Goals as goal

pub returns-clause-none : goal.returns-clause-none
returns-clause-none c = rw c.unreadable_from.ensures (moves_are_readable c.args.line.now)
