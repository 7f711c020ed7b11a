-- Each line is read, and the last one read ends the text.
use Rattle.std.proofs.Common.{◌≡◌, ◌∙◌, ℕ, List, Ok, ap, ap₂, sym}
use Rattle.lk_trace.specs.declared.trace.Event.{Event}
use Rattle.lk_text.specs.Fates.{after_line}
use Rattle.lk_text.proofs.Reading.{line_last, line_on, of_unread, reads_end}
use Rattle.lk_text.proofs.follow.follow_input.Goals as goal

pub returns-in-Ok-false : goal.returns-in-Ok-false
returns-in-Ok-false g c =
    reads_end _ _ _ _ _ _ c.end.new.self c.loop-number.invariant
    (c.in-Ok-false.ensures.end (ap Ok c.in-Ok-false.field-0-test))
    c.end.ensures.verdict c.end.ensures.summary

pub returns-then-not-on : goal.returns-then-not-on
returns-then-not-on g c =
    line_last _ _ _ _ _ _ _ _ _ _ _ c.take-on.new.self c.loop-number.invariant
    (c.in-Ok-true.ensures.line (ap Ok c.in-Ok-true.field-0-test)) c.bytes.ensures
    (rw c.line-event.ensures.event at c.take-on.ensures.verdict) c.if-not-on.true
    c.line-event.ensures.after
    (rw c.line-event.ensures.event at c.take-on.ensures.summary)

pub loop-number-preserved : goal.loop-number-preserved
loop-number-preserved g c =
    let same : c.bytes-in-loop-number.result.now ≡ c.bytes.result.now =
    c.bytes-in-loop-number.ensures ∙ sym c.bytes.ensures in
    line_on _ _ _ _ _ _ _ _ _ _ _ _ _ c.take-on.new.self c.loop-number.invariant
    (c.in-Ok-true.ensures.line (ap Ok c.in-Ok-true.field-0-test)) c.bytes.ensures
    (rw c.line-event.ensures.event at c.take-on.ensures.verdict) c.if-not-on.false
    c.line-event.ensures.after
    (c.take.ensures
    ∙ ap₂ (λ (e : Event) (b : List ℕ). after_line c.loop-number.course e b)
    c.line-event.ensures.event same)
    (rw c.line-event.ensures.event at c.take-on.ensures.summary)

pub returns-in-Err : goal.returns-in-Err
returns-in-Err g c = of_unread _ c.unread.result c.unread.ensures

pub returns : goal.returns
returns g c = of_unread _ c.unread-2.result c.unread-2.ensures
