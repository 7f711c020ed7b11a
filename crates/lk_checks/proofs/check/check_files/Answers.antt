-- There is no ending before the first file.
use Rattle.std.proofs.Common.{ap, arith, length}
use Rattle.lk_checks.proofs.check.check_files.Goals as goal

pub returns-clause-each : goal.returns-clause-each
returns-clause-each g c =
    c.in_ok-checked.ensures.each
    (λ k d h. absurd (omega (arith, h, ap length c.new-reports.ensures.empty)))
