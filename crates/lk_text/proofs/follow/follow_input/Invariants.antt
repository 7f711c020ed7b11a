-- The rest of the text ends as the text does.
use Rattle.lk_text.specs.Lines.{bytes_left}
use Rattle.lk_text.specs.invariants.{ReadsText}
use Rattle.lk_text.proofs.follow.follow_input.Given as goal

abbrev pub invariant-loop-number : goal.invariant-loop-number
invariant-loop-number g l =
    ReadsText (g.R.Read.remaining l.fn.input)
    (bytes_left g.R.Read.remaining l.lines) l.number l.trace
    l.course l.report.summary
