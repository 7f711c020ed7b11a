use Rattle.std.proofs.Common.{◌∙◌, rules}
use Rattle.std.proofs.lemmas.Result.{IfOk-weaker}
use Rattle.lk_workers.specs.invariants.Collected.{bytes_of, IsDone}
use Rattle.lk_workers.proofs.DrawnWork.{each_once}
use Rattle.lk_workers.proofs.Places.{fits, reports_in_place}
use Rattle.lk_workers.proofs.many.replay_many.Goals as goal

pub place_all-requires : goal.place_all-requires
place_all-requires g c =
    let texts = c.args.texts.now in
    let seat = c.in_ok-seat.seat in
    let reports = c.in_ok-seat.reports.items in
    let done : IsDone c.in_ok-draws.draws texts c.args.workers seat reports = search rules in
    fits texts _ (each_once (bytes_of texts) _ seat.drawn c.close.result done.2 done.3
    (c.close.ensures.each (search rules)))

pub returns : goal.returns
returns g c =
    let texts = c.args.texts.now in
    let seat = c.in_ok-seat.seat in
    let reports = c.in_ok-seat.reports.items in
    let done : IsDone c.in_ok-draws.draws texts c.args.workers seat reports = search rules in
    let each =
    each_once (bytes_of texts) _ seat.drawn c.close.result done.2 done.3
    (c.close.ensures.each (search rules)) in
    IfOk-weaker c.place_all.result _ _ (λ v e. e ∙ reports_in_place texts _ each)
    c.place_all.ensures
