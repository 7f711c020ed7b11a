-- The texts of the files are those whose reports went out.
use Rattle.std.proofs.Common.{List, ℕ, ◌∙◌, ap, subst}
use Rattle.std.proofs.lemmas.List.{length-map}
use Rattle.std.proofs.lemmas.Result.{err_from_is_err_and}
use Rattle.std.specs.Io.KnownBytes.{Appends}
use Rattle.lk_workers.specs.Batch.{batch_text_of}
use Rattle.lockreplay.specs.Jobs.{status_of_reports}
use Rattle.lk_workers.specs.invariants.Collected.{bytes_of}
use Rattle.lockreplay.proofs.Sent.{cut_batch, same_reports}
use Rattle.lockreplay.proofs.jobs.replay_files.Goals as goal

pub returns : goal.returns
returns g c =
    let texts = c.in_ok-texts.texts.items in
    let old = g.W.Write.contents c.args.output.now in
    let new = g.W.Write.contents c.send_reports.new.output in
    let sent =
    same_reports texts _ _ _ c.deref.ensures.value c.deref-2.ensures.value c.in-Ok.ensures in
    let judged =
    same_reports texts _ _ _ c.deref.ensures.value c.deref-3.ensures.value
    c.in-Ok.ensures in (
      bytes_of texts,
      length-map texts (λ t. t.items) ∙ c.in_ok-texts.ensures.each,
      subst (λ (rs : List (List ℕ)). Appends old new (batch_text_of rs)) sent
          c.in_ok-send_reports.ensures.written,
      c.batch_status.ensures ∙ ap status_of_reports judged,
    )

pub returns-in_err-send_reports : goal.returns-in_err-send_reports
returns-in_err-send_reports g c =
    let texts = c.in_ok-texts.texts.items in
    let sent =
    same_reports texts _ _ _ c.deref.ensures.value c.deref-2.ensures.value c.in-Ok.ensures in
    let count = length-map texts (λ t. t.items) ∙ c.in_ok-texts.ensures.each in
    let ends = c.in_err-send_reports.ensures in
    let error =
    err_from_is_err_and c.from_residual-in_err-send_reports.result
    c.from_residual-in_err-send_reports.ensures.1 in
    rw (error.1, error.2)
    (cut_batch c.in_err-send_reports.field-0.0
    (bytes_of texts) _ _ _ _ count sent ends.prefix ends.no_memory ends.fault)
