-- The place is that of `unreadable_from`, of which the law is proved.
use Rattle.lk_lines.proofs.HeaderTokens.{headers_are_readable}
use Rattle.lk_lines.proofs.unreadable.unreadable_header.Goals as goal

pub returns-clause-none : goal.returns-clause-none
returns-clause-none c number =
    rw c.unreadable_from.ensures (headers_are_readable c.args.line.now number)
