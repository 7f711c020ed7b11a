-- Each move is played as `replay_from` says.
use Rattle.std.proofs.Common.{◌∙◌, ap, arith, length, length-append}
use Rattle.lk_replay.proofs.Sofar.{shown_ended, shown_moved, shown_stopped}
use Rattle.lk_replay.proofs.Promised.{history_as_played}
use Rattle.lk_replay.proofs.played.replay.Goals as goal

pub returns-in-Err-Refused-clause-played : goal.returns-in-Err-Refused-clause-played
returns-in-Err-Refused-clause-played c =
    shown_stopped _ _ c.loop-line.keeper _ _ _ _ _ _ _ c.loop-line-test.true
    c.in-Err-Refused.ensures.answer c.in-Err-Refused.field-0-is c.in-Err-Refused.refusal-is
    c.in-Err-Refused.ensures.kept c.loop-line.invariant.shown

pub returns-in-Err-Refused-clause-moves : goal.returns-in-Err-Refused-clause-moves
returns-in-Err-Refused-clause-moves c =
    history_as_played c.args.schedule.now _ (returns-in-Err-Refused-clause-played c)

pub returns-clause-played : goal.returns-clause-played
returns-clause-played c =
    shown_ended _ _ c.loop-line.keeper c.moves-moves.result.now c.loop-line.line-index
    (omega (arith, c.loop-line-test.false)) c.loop-line.invariant.shown

pub returns-clause-moves : goal.returns-clause-moves
returns-clause-moves c = history_as_played c.args.schedule.now _ (returns-clause-played c)

pub loop-line-preserved : goal.loop-line-preserved
loop-line-preserved c =
    let counted = c.in_ok-push-in-Ok.ensures.items in
    record {
      shown =
          shown_moved _ _ _ c.loop-line.keeper _ _ _ _ _ c.loop-line-test.true
          c.in-Ok.ensures.answer c.in-Ok.ensures.played counted c.loop-line.invariant.shown;
      count =
          ap length counted ∙ length-append c.loop-line.accepted.items _
          ∙ omega (arith, c.loop-line.invariant.count);
      few = c.loop-line.invariant.few;
    }
