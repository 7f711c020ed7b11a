-- One ending more for each file but those left, that of an input.
use Rattle.std.proofs.Common.{◌≡◌, ◌+◌, All, length}
use Rattle.lk_text.specs.Sources.{left_in}
use Rattle.lk_text.specs.Verdicts.{EndsInput}
use Rattle.lk_checks.proofs.check.check_rounds.Given as goal

abbrev pub invariant-loop-rest : goal.invariant-loop-rest
invariant-loop-rest g l = record {
  one_each :
      length l.reports.endings.items + length l.rest
      ≡ length l.initial.reports.endings.items + length l.job.files.items;
  each :
      All (EndsInput (left_in g.R.File.Read.remaining g.R.Reader.Read.remaining))
      l.initial.reports.endings.items
      → All (EndsInput (left_in g.R.File.Read.remaining g.R.Reader.Read.remaining))
      l.reports.endings.items;
}

abbrev pub decreases-loop-rest : goal.decreases-loop-rest
decreases-loop-rest g l = length l.rest
