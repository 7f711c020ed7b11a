-- A move is a number and a token.
use Rattle.std.proofs.Common.{refl, sym, ◌∙◌}
use Rattle.lk_lines.proofs.Pieces.{move_read, whole_line}
use Rattle.lk_lines.proofs.lines.move_of.Goals as goal

pub returns-in_err-number : goal.returns-in_err-number
returns-in_err-number c = c.from_residual.ensures ∙ sym (whole_line _ c.in_err-number.ensures)

pub returns-in_err-thread : goal.returns-in_err-thread
returns-in_err-thread c =
    c.from_residual-in_err-thread.ensures
    ∙ sym (move_read _ _ c.in_ok-number.token.now _ _ c.in_ok-number.ensures
    (sym c.number_of.ensures.number ∙ c.in_err-thread.was) refl)

pub returns-in_err-action : goal.returns-in_err-action
returns-in_err-action c =
    c.from_residual-in_err-action.ensures
    ∙ sym (move_read _ _ _ _ _ c.in_ok-number.ensures
    (sym c.number_of.ensures.number ∙ c.in_ok-thread.was)
    (sym c.move_named.ensures ∙ c.in_err-action.was))

pub returns : goal.returns
returns c =
    sym (move_read _ _ _ _ _ c.in_ok-number.ensures
    (sym c.number_of.ensures.number ∙ c.in_ok-thread.was)
    (sym c.move_named.ensures ∙ c.in_ok-action.was))
