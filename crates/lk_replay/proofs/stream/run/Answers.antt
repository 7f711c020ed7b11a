-- The printed text is the report of the text that was read.
use Rattle.std.proofs.Common.{◌≡◌, ℕ, List}
use Rattle.std.proofs.lemmas.Result.{IfOk-weaker, on_ok_weaker}
use Rattle.std.specs.Io.KnownBytes.{Appends}
use Rattle.lk_replay.specs.Devices.{AppendsPrefix}
use Rattle.lk_replay.specs.Ending.{ending_of}
use Rattle.lk_replay.proofs.Promised.{appends_report, report_of_input}
use Rattle.lk_replay.proofs.stream.run.Goals as goal

pub returns-clause-written : goal.returns-clause-written
returns-clause-written g c =
    let text = c.in_ok-text.ensures in
    let old = g.W.Write.contents c.args.output.now in
    let new = g.W.Write.contents c.write_report.new.output in
    on_ok_weaker c.write_report.result
    (λ appended. appends_report _ _ _ (report_of_input _ _ _ _ (Appends old new)
    c.deref.ensures.value text.taken text.bounded text.whole appended))
    c.write_report.ensures.written

pub returns-clause-ending : goal.returns-clause-ending
returns-clause-ending g c =
    let text = c.in_ok-text.ensures in
    IfOk-weaker c.write_report.result _ _
    (λ e. report_of_input _ _ _ _ (λ (r : List ℕ). e ≡ ending_of r) c.deref.ensures.value text.taken
    text.bounded text.whole)
    c.write_report.ensures.ending

pub returns-clause-prefix : goal.returns-clause-prefix
returns-clause-prefix g c = λ is.
    let text = c.in_ok-text.ensures in
    let old = g.W.Write.contents c.args.output.now in
    let new = g.W.Write.contents c.write_report.new.output in
    report_of_input _ _ _ _ (AppendsPrefix old new) c.deref.ensures.value text.taken text.bounded
    text.whole (c.write_report.ensures.prefix is)
