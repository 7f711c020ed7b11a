-- Each line is checked as the definitions of a text do.
use Rattle.std.proofs.Common.{ap, sym, ◌∙◌}
use Rattle.lk_lines.specs.Lines.{lines_of}
use Rattle.lk_page.specs.Checking.{Checking, checked_lines}
use Rattle.lk_page.proofs.CheckedLines.{ends_here, goes_on, is_checked, no_more}
use Rattle.lk_page.proofs.check.check_text.Goals as goal

pub loop-rest-preserved : goal.loop-rest-preserved
loop-rest-preserved c =
    let l = c.loop-rest in
    let t : Checking = record { reading = l.trace; answer = l.answer; steps = l.steps } in
    let e = c.check_line.ensures in
    let read = is_checked t c.cut_line.result.0.now _ _ _ _ c.saturating_add-answer.ensures e.after
    e.answer e.steps in
    ap (λ (x : Checking). checked_lines x (lines_of c.cut_line.result.1.now)) read
    ∙ goes_on t _ _ _ _ c.cut_line.ensures.first (ap (λ (x : Checking). x.answer.fault) read)
    c.if-answer-ne0.false
    ∙ l.invariant

pub returns-then-answer-ne0-clause-answer : goal.returns-then-answer-ne0-clause-answer
returns-then-answer-ne0-clause-answer c =
    let l = c.loop-rest in
    let t : Checking = record { reading = l.trace; answer = l.answer; steps = l.steps } in
    let e = c.check_line.ensures in
    let read = is_checked t c.cut_line.result.0.now _ _ _ _ c.saturating_add-answer.ensures e.after
    e.answer e.steps in
    ap (λ (x : Checking). x.answer)
    (read
    ∙ ends_here t _ _ _ _ c.cut_line.ensures.first (ap (λ (x : Checking). x.answer.fault) read)
    c.if-answer-ne0.true
    ∙ l.invariant)

pub returns-then-answer-ne0-clause-steps : goal.returns-then-answer-ne0-clause-steps
returns-then-answer-ne0-clause-steps c =
    let l = c.loop-rest in
    let t : Checking = record { reading = l.trace; answer = l.answer; steps = l.steps } in
    let e = c.check_line.ensures in
    let read = is_checked t c.cut_line.result.0.now _ _ _ _ c.saturating_add-answer.ensures e.after
    e.answer e.steps in
    ap (λ (x : Checking). x.steps)
    (read
    ∙ ends_here t _ _ _ _ c.cut_line.ensures.first (ap (λ (x : Checking). x.answer.fault) read)
    c.if-answer-ne0.true
    ∙ l.invariant)

pub returns-clause-answer : goal.returns-clause-answer
returns-clause-answer c =
    let l = c.loop-rest in
    let t : Checking = record { reading = l.trace; answer = l.answer; steps = l.steps } in
    c.check_end.ensures
    ∙ ap (λ (x : Checking). x.answer)
    (sym (no_more t l.rest.now (sym c.is_empty.ensures ∙ c.loop-rest-test.false))
    ∙ l.invariant)

pub returns-clause-steps : goal.returns-clause-steps
returns-clause-steps c =
    let l = c.loop-rest in
    let t : Checking = record { reading = l.trace; answer = l.answer; steps = l.steps } in
    ap (λ (x : Checking). x.steps)
    (sym (no_more t l.rest.now (sym c.is_empty.ensures ∙ c.loop-rest-test.false))
    ∙ l.invariant)
