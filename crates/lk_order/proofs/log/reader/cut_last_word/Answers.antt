-- The last space is where the search from the end stops.
use Rattle.std.proofs.Common.{rules}
use Rattle.std.proofs.lemmas.List.{take_rest}
use Rattle.lk_order.proofs.LastSpace.{cut_last_none, cut_last_at_last}
use Rattle.lk_order.proofs.log.reader.cut_last_word.Goals as goal

pub returns : goal.returns
returns c =
    let line = c.args.line.now in
    let found = cut_last_at_last line c.in_ok-at.at (search rules) (search rules) (search rules) in
    rw (found, take_rest)

pub returns-in_err-at : goal.returns-in_err-at
returns-in_err-at c =
    rw c.from_residual.ensures (cut_last_none c.args.line.now (search rules))
