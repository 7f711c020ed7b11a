-- The check of the rest is that of the text.
use Rattle.std.proofs.Common.{◌≡◌, length}
use Rattle.lk_lines.specs.Lines.{lines_of}
use Rattle.lk_page.specs.Checking.{checked_lines, checked_text}
use Rattle.lk_page.proofs.check.check_text.Given as goal

abbrev pub invariant-loop-rest : goal.invariant-loop-rest
invariant-loop-rest l =
    checked_lines (record { reading = l.trace; answer = l.answer; steps = l.steps })
    (lines_of l.rest)
    ≡ checked_text l.initial.answer l.initial.steps l.initial.rest

abbrev pub decreases-loop-rest : goal.decreases-loop-rest
decreases-loop-rest l = length l.rest
