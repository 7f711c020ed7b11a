-- The moves that were made are those of the answer.
use Rattle.std.proofs.Common.{◌∙◌, ap, refl}
use Rattle.std.specs.Int.{from_bool}
use Rattle.lk_page.proofs.Resting.{is_finished}
use Rattle.lk_page.proofs.finish.Goals as goal

pub returns-clause-finished : goal.returns-clause-finished
returns-clause-finished c = λ p some read.
    is_finished _ _ _ _ _ _ _ _ _ c.finishing_move.result
    (c.in-Some.ensures.played p read) c.in-Some.ensures.kept
    c.make_finishing-made.ensures.made c.make_finishing-made.ensures.rests
    c.make_finishing-made.ensures.few c.finishing_move.ensures.none
    (c.from.ensures ∙ ap from_bool c.is_some.ensures) refl
