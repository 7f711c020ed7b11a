-- The bytes of the line so far.
use Rattle.lk_text.specs.Lines.{bytes_left}
use Rattle.lk_text.specs.invariants.{Taken}
use Rattle.lk_text.proofs.lines.Lines.next_line.Given as goal

abbrev pub invariant-loop : goal.invariant-loop
invariant-loop g l =
    Taken (bytes_left g.R.Read.remaining l.initial.self) (bytes_left g.R.Read.remaining l.self)
    l.line l.some
