-- One ending more for each file so far, that of an input; and so it is of the reports to come.
use Rattle.std.proofs.Common.{All, IfOk}
use Rattle.lk_text.specs.Sources.{left_in}
use Rattle.lk_text.specs.Verdicts.{EndsInput}
use Rattle.lk_checks.specs.invariants.{Adds}
use Rattle.lk_checks.proofs.check.check_round.Given as goal

abbrev pub invariant-loop-name : goal.invariant-loop-name
invariant-loop-name g l = record {
  adds :
      Adds (left_in g.R.File.Read.remaining g.R.Reader.Read.remaining) l.name-index
      l.initial.reports.endings.items l.reports.endings.items;
  late :
      All (λ place. IfOk place.1 (λ report. EndsInput g.R.File.Read.remaining report.ending))
      l.checked.rest.items;
}
