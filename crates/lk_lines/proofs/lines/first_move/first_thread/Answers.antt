-- The number has one digit, or two.
use Rattle.std.proofs.Common.{◌∙◌, arith, refl, sym}
use Rattle.lk_lines.proofs.FirstMoves.{one_digit, two_digits}
use Rattle.lk_lines.proofs.lines.first_move.first_thread.Goals as goal

pub returns-then-text-eq32 : goal.returns-then-text-eq32
returns-then-text-eq32 c =
    one_digit c.args.text.now _ _ (omega (arith, c.if-text-lt3.false))
    (sym c.is_ascii_digit.ensures.value ∙ c.if-not-is_ascii_digit.false) c.if-text-eq32.true refl
    refl

pub returns : goal.returns
returns c =
    two_digits c.args.text.now _ _ (omega (arith, c.if-text-lt3.false))
    (sym c.is_ascii_digit.ensures.value ∙ c.if-not-is_ascii_digit.false) c.if-first-eq0.false
    (sym c.is_ascii_digit-else-first-eq0.ensures.value ∙ c.if-not-is_ascii_digit-2.false)
    c.if-text-ne32.false refl refl
