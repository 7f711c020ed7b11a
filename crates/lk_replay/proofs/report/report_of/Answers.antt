-- The law from bytes to bytes, of this report.
use Rattle.std.proofs.Common.{rules}
use Rattle.lk_replay.specs.Report.{report_text}
use Rattle.lk_replay.proofs.Promised.{report_of_text}
use Rattle.lk_replay.proofs.report.report_of.Goals as goal

pub returns-clause-promised : goal.returns-clause-promised
unfolding report_text
returns-clause-promised c = report_of_text c.args.bytes.now _ (search rules)
