-- The sent bytes are the report, and it ends as the replay does.
use Rattle.std.proofs.Common.{◌∙◌, rules, subst}
use Rattle.std.proofs.lemmas.Result.{IfErr-weaker, IfOk-weaker}
use Rattle.lk_replay.specs.Devices.{AppendsPrefix}
use Rattle.lk_replay.proofs.LastLines.{ends_by_plan, ends_faulty, report_is}
use Rattle.lk_replay.proofs.Passed.{at_error}
use Rattle.lk_replay.proofs.stream.write_report.Goals as goal

pub returns-in_ok-place-in-Ok-clause-ending : goal.returns-in_ok-place-in-Ok-clause-ending
returns-in_ok-place-in-Ok-clause-ending g c =
    IfOk-weaker c.send_rest.result _ _
    (λ ending is. is ∙ c.new.ensures.ending
    ∙ ends_by_plan c.args.text.now c.in-Ok.schedule c.in-Ok.ensures)
    c.send_rest.ensures.ending

pub returns-in_ok-place-in-Ok-clause-prefix : goal.returns-in_ok-place-in-Ok-clause-prefix
returns-in_ok-place-in-Ok-clause-prefix g c = λ is.
    subst (AppendsPrefix (g.W.Write.contents c.args.output.now)
    (g.W.Write.contents c.send_rest.new.output))
    (c.new.ensures.text ∙ report_is c.args.text.now c.in-Ok.schedule c.in-Ok.ensures)
    (at_error c.send_rest.result _ _ is c.send_rest.ensures.prefix)

pub returns-in_ok-send-in-Err-clause-ending : goal.returns-in_ok-send-in-Err-clause-ending
returns-in_ok-send-in-Err-clause-ending g c =
    ends_faulty c.in-Err.fault c.args.text.now (search rules) c.in-Err.ensures

pub returns-in_ok-place-in-Ok-clause-fault : goal.returns-in_ok-place-in-Ok-clause-fault
returns-in_ok-place-in-Ok-clause-fault g c =
    IfErr-weaker c.send_rest.result _ _ (λ e is read. absurd (cc)) c.send_rest.ensures.fault
