-- Too much at one digit is too much at the end.
use Rattle.std.proofs.Common.{◌∙◌, arith, sym}
use Rattle.lk_lines.proofs.Numbers.{overflows}
use Rattle.lk_lines.proofs.vocabulary.whole_number.Goals as goal

pub returns-in_err-checked_mul : goal.returns-in_err-checked_mul
returns-in_err-checked_mul c =
    c.from_residual.ensures
    ∙ sym (overflows c.loop-b.value c.loop-b.b-index c.args.text.now c.loop-b-test.true
    c.loop-b.invariant.value (omega (arith, c.in_err-checked_mul.ensures)))

pub returns-in_err-value : goal.returns-in_err-value
returns-in_err-value c =
    c.from_residual-in_err-value.ensures
    ∙ sym (overflows c.loop-b.value c.loop-b.b-index c.args.text.now c.loop-b-test.true
    c.loop-b.invariant.value
    (omega (arith, c.in_err-value.ensures, c.in_ok-checked_mul.ensures.1, c.from.ensures)))
