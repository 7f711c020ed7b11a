-- A part of the whole text went out or waits, and the rest is left.
use Rattle.std.proofs.Common.{◌+◌, drop}
use Rattle.lk_replay.proofs.Passed.{IsUnderWay}
use Rattle.lk_workers.specs.Batch.{numbered_from, batch_text_of}
use Rattle.lk_workers.specs.invariants.Collected.{bytes_of}
use Rattle.lockreplay.proofs.sending.send_reports.Given as goal

abbrev pub invariant-loop-place : goal.invariant-loop-place
invariant-loop-place g l =
    IsUnderWay (batch_text_of (bytes_of l.reports))
    (numbered_from (l.place + 1) (bytes_of (drop l.place l.reports))) l.waiting.items
    (g.W.Write.contents l.initial.output) (g.W.Write.contents l.output)
