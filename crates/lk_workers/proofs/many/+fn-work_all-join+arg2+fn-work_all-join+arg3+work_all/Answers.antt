use Rattle.std.proofs.Common.{arith, rules, ◌/◌, ◌-◌}
use Rattle.std.proofs.lemmas.Result.{IfOk-weaker}
use Rattle.lk_workers.specs.invariants.Collected.{IsDone}
use Rattle.lk_workers.proofs.DrawnWork.{done_both}
use Rattle.lk_workers.proofs.many.+fn-work_all-join+arg2+fn-work_all-join+arg3+work_all.Goals as goal

pub returns : goal.returns
returns g t c =
    let d = c.args.draws.now in
    let texts = c.args.texts.now in
    let workers = c.args.workers in
    let half = workers / 2 in
    let rest = workers - half in
    let front = c.in_ok-front.field-0 in
    let back = c.in_ok-back.field-0 in
    let f : IsDone d texts half front.0 front.1.items = search rules in
    let b : IsDone d texts rest back.0 back.1.items = search rules in
    IfOk-weaker c.gather.result _ _ (λ r h. done_both d texts workers half rest front.0 back.0 r.0
    front.1.items back.1.items r.1.items (omega arith) f b h.0 h.1) c.gather.ensures
