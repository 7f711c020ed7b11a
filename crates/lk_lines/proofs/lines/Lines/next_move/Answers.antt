-- The first line is the next one.
use Rattle.lk_lines.proofs.FirstMoves.{next_is}
use Rattle.lk_lines.proofs.lines.Lines.next_move.Goals as goal

pub returns-clause-read : goal.returns-clause-read
returns-clause-read c =
    next_is c.args.self.now c.self.inside.rest.now _ c.self.inside.number _ _ c.self.view_is
    c.in_ok-thread.ensures
