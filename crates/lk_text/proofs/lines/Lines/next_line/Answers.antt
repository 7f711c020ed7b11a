-- Part by part, up to a line feed or the end of the input.
use Rattle.std.proofs.Common.{◌≡◌, ◌∙◌, ap, true, false, Ok}
use Rattle.lk_text.proofs.Taken.{taken_none, line_taken, part_taken, last_taken, none_taken}
use Rattle.lk_text.proofs.lines.Lines.next_line.Goals as goal

pub loop-init : goal.loop-init
loop-init g c = taken_none _ _ c.clear.ensures.kept c.clear.ensures.whole

pub loop-preserved : goal.loop-preserved
loop-preserved g c =
    part_taken _ _ _ _ _ _ _ _ c.loop.invariant c.refill.ensures.kept c.take_part.ensures
    c.if-take_part.false

pub returns-then-not-branch-clause-line : goal.returns-then-not-branch-clause-line
returns-then-not-branch-clause-line g c = λ is.
    let same : c.loop.some ≡ true = cc in
    last_taken _ _ _ _ _ c.loop.invariant c.refill.ensures.kept
    (c.refill.ensures.end (c.in_ok-refill.was ∙ ap Ok c.if-not-branch.true)) same

pub returns-then-not-branch-clause-end : goal.returns-then-not-branch-clause-end
returns-then-not-branch-clause-end g c = λ is.
    let same : c.loop.some ≡ false = cc in
    none_taken _ _ _ _ _ c.loop.invariant c.refill.ensures.kept
    (c.refill.ensures.end (c.in_ok-refill.was ∙ ap Ok c.if-not-branch.true)) same

pub returns-then-take_part-clause-line : goal.returns-then-take_part-clause-line
returns-then-take_part-clause-line g c = λ is. line_taken _ _ _ _ _ _ _ _ c.loop.invariant
    c.refill.ensures.kept c.take_part.ensures c.if-take_part.true
