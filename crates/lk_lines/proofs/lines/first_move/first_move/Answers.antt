-- A thread's number, and then a move's token.
use Rattle.lk_lines.proofs.FirstMoves.{first_line}
use Rattle.lk_lines.proofs.lines.first_move.first_move.Goals as goal

pub returns : goal.returns
returns c =
    first_line c.args.text.now _ _ _ _ c.in_ok-thread.ensures c.in_ok-action.ensures
