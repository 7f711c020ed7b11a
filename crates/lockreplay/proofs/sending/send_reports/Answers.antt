-- Each report goes out after its line.
use Rattle.std.proofs.Common.{◌∙◌, codes, refl, subst}
use Rattle.lk_replay.proofs.Passed.{at_error, cut_short, cut_waiting, goes_on}
use Rattle.lk_replay.specs.Devices.{AppendsPrefix}
use Rattle.lockreplay.proofs.Passed.{next_report}
use Rattle.lockreplay.proofs.sending.send_reports.Goals as goal

pub returns-in_err-pass-clause-prefix : goal.returns-in_err-pass-clause-prefix
returns-in_err-pass-clause-prefix g c = λ _.
    let next =
    next_report c.loop-place.place c.args.reports.now c.index-reports-place.result _ _
    c.loop-place-test.true c.index-reports-place.is refl refl in
    cut_short _ _ _ (codes "file ") _ _ _ _ c.loop-place.invariant next c.in_err-pass.ensures.prefix

pub returns-in_err-pass-2-clause-prefix : goal.returns-in_err-pass-2-clause-prefix
returns-in_err-pass-2-clause-prefix g c = λ _.
    let next =
    next_report c.loop-place.place c.args.reports.now c.index-reports-place.result
    c.as_bytes.result.now _ c.loop-place-test.true c.index-reports-place.is
    (c.as_bytes.ensures.value ∙ c.format.ensures.text) refl in
    cut_short _ _ _ _ _ _ _ _
    (goes_on _ _ _ (codes "file ") _ _ _ _ _ c.loop-place.invariant next
    c.in_ok-pass.ensures.passed) refl c.in_err-pass-2.ensures.prefix

pub returns-in_err-pass-3-clause-prefix : goal.returns-in_err-pass-3-clause-prefix
returns-in_err-pass-3-clause-prefix g c = λ _.
    let next =
    next_report c.loop-place.place c.args.reports.now c.index-reports-place.result
    c.as_bytes.result.now _ c.loop-place-test.true c.index-reports-place.is
    (c.as_bytes.ensures.value ∙ c.format.ensures.text) refl in
    cut_short _ _ _ (codes "\n") _ _ _ _
    (goes_on _ _ _ c.as_bytes.result.now _ _ _ _ _
    (goes_on _ _ _ (codes "file ") _ _ _ _ _ c.loop-place.invariant next
    c.in_ok-pass.ensures.passed) refl c.in_ok-pass-2.ensures.passed) refl
    c.in_err-pass-3.ensures.prefix

pub returns-in_err-pass-4-clause-prefix : goal.returns-in_err-pass-4-clause-prefix
returns-in_err-pass-4-clause-prefix g c = λ _.
    let next =
    next_report c.loop-place.place c.args.reports.now c.index-reports-place.result
    c.as_bytes.result.now c.as_slice.result.now c.loop-place-test.true c.index-reports-place.is
    (c.as_bytes.ensures.value ∙ c.format.ensures.text) c.as_slice.ensures.value in
    cut_short _ _ _ c.as_slice.result.now _ _ _ _
    (goes_on _ _ _ (codes "\n") _ _ _ _ _
    (goes_on _ _ _ c.as_bytes.result.now _ _ _ _ _
    (goes_on _ _ _ (codes "file ") _ _ _ _ _ c.loop-place.invariant next
    c.in_ok-pass.ensures.passed) refl c.in_ok-pass-2.ensures.passed) refl
    c.in_ok-pass-3.ensures.passed) refl c.in_err-pass-4.ensures.prefix

pub loop-place-preserved : goal.loop-place-preserved
loop-place-preserved g c =
    let next =
    next_report c.loop-place.place c.args.reports.now c.index-reports-place.result
    c.as_bytes.result.now c.as_slice.result.now c.loop-place-test.true c.index-reports-place.is
    (c.as_bytes.ensures.value ∙ c.format.ensures.text) c.as_slice.ensures.value in
    goes_on _ _ _ c.as_slice.result.now _ _ _ _ _
    (goes_on _ _ _ (codes "\n") _ _ _ _ _
    (goes_on _ _ _ c.as_bytes.result.now _ _ _ _ _
    (goes_on _ _ _ (codes "file ") _ _ _ _ _ c.loop-place.invariant next
    c.in_ok-pass.ensures.passed) refl c.in_ok-pass-2.ensures.passed) refl
    c.in_ok-pass-3.ensures.passed) refl c.in_ok-pass-4.ensures.passed

pub returns-clause-prefix : goal.returns-clause-prefix
returns-clause-prefix g c = λ is_write.
    let mid = g.W.Write.contents c.loop-place.output in
    let new = g.W.Write.contents c.send.new.output in
    cut_waiting _ _ c.loop-place.waiting.items _ mid new c.loop-place.invariant
    (subst (AppendsPrefix mid new) c.as_slice-2.ensures.value
    (at_error c.send.result _ _ is_write c.send.ensures.prefix))
