-- The cut is at the first such byte.
use Rattle.std.proofs.Common.{arith}
use Rattle.lk_lines.proofs.Cuts.{cut_first, cut_nowhere}
use Rattle.lk_lines.proofs.lines.cut_at.Goals as goal

pub returns-clause-pieces : goal.returns-clause-pieces
returns-clause-pieces c =
    cut_nowhere c.args.byte _
    (λ k low here. c.loop-at.invariant k (omega (arith, c.loop-at-test.false)) here)

pub returns-then-found-byte-clause-pieces : goal.returns-then-found-byte-clause-pieces
returns-then-found-byte-clause-pieces c =
    cut_first c.args.byte _ _ c.loop-at.invariant c.loop-at-test.true c.if-found-byte.true
