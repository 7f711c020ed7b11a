-- The words come one after another.
use Rattle.std.proofs.Common.{append_assoc}
use Rattle.lk_replay.specs.Report.{line_start}
use Rattle.lk_replay.proofs.report.printer.put_start.Goals as goal

pub returns-clause-text : goal.returns-clause-text
unfolding line_start
returns-clause-text c =
    rw (
      c.put.ensures.text,
      c.put_block-at-2.ensures.text,
      c.put_block-at.ensures.text,
      c.put-at-2.ensures.text,
      c.put_number-at.ensures.text,
      c.put-at.ensures.text,
      c.put_count-at.ensures.text,
      c.move_block-len.ensures.text,
      c.outcome_block-len.ensures.text,
    ) (simp append_assoc)
