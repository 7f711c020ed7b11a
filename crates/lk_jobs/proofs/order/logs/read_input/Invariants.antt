-- So much of the log was read.
use Rattle.lk_text.specs.Lines.{bytes_left}
use Rattle.lk_jobs.specs.invariants.{ReadsInput}
use Rattle.lk_jobs.proofs.order.logs.read_input.Given as goal

abbrev pub invariant-loop-number : goal.invariant-loop-number
invariant-loop-number g l =
    ReadsInput (g.I.Read.remaining l.fn.input) (bytes_left g.I.Read.remaining l.lines) l.reader
