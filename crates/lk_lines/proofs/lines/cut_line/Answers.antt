-- The first piece is the first line.
use Rattle.lk_lines.proofs.Cuts.{line_first, line_last}
use Rattle.lk_lines.proofs.lines.cut_line.Goals as goal

pub returns-in-Some-clause-first : goal.returns-in-Some-clause-first
returns-in-Some-clause-first c = line_first _ _ _ c.in-Some.ensures.pieces

pub returns-in-None-clause-first : goal.returns-in-None-clause-first
returns-in-None-clause-first c = line_last _ c.requires c.in-None.ensures.pieces
