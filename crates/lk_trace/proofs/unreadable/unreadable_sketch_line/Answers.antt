-- It stops nowhere exactly if it is one of a sketch.
use Rattle.std.proofs.Common.{arith}
use Rattle.lk_trace.proofs.Stops.{open_lines_stop}
use Rattle.lk_trace.proofs.unreadable.unreadable_sketch_line.Goals as goal

pub returns-in_err-stop-clause-none : goal.returns-in_err-stop-clause-none
returns-in_err-stop-clause-none c =
    λ within thread word.
    let law = open_lines_stop c.args.line.now within thread word in grind (arith)

pub returns-clause-none : goal.returns-clause-none
returns-clause-none c =
    λ within thread word.
    let law = open_lines_stop c.args.line.now within thread word in grind (arith)
