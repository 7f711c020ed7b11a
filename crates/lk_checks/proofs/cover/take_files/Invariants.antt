-- One ending more for each file so far, that of an input.
use Rattle.std.proofs.Common.{[]}
use Rattle.lk_text.specs.Sources.{left_in}
use Rattle.lk_checks.specs.invariants.{Adds}
use Rattle.lk_checks.proofs.cover.take_files.Given as goal

abbrev pub invariant-loop-name : goal.invariant-loop-name
invariant-loop-name g l =
    Adds (left_in g.R.File.Read.remaining g.R.Reader.Read.remaining) l.name-index []
    l.endings.items
