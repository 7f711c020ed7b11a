-- One move more, or the refused one.
use Rattle.std.proofs.Common.{sym, ap, ◌∙◌, ◌+◌, arith}
use Rattle.lk_locks.specs.Steps.{refused_with}
use Rattle.lk_replay.specs.Schedule.{moves_left}
use Rattle.lk_page.proofs.Turns.{next_read, same_threads, same_words, turn_made, turn_refused}
use Rattle.lk_page.proofs.playing.play_moves.Goals as goal

pub loop-count-preserved : goal.loop-count-preserved
loop-count-preserved c =
    let accepted = sym (ap refused_with c.in-Ok.is) ∙ c.play_line.ensures.refused in
    let read =
    next_read c.in-Ok-Some.line _ _ (rw c.in-Ok-Some.field-0-is at c.in-Ok-Some.ensures.read)
    c.loop-count.invariant.whole in
    let room = rw c.in-Ok-Some.field-0-is at c.in-Ok-Some.ensures.room in
    record {
      playing =
          turn_made c.args.lock.now.state (moves_left c.args.lines 0)
          (moves_left c.loop-count.lines c.loop-count.count)
          (moves_left c.read_move.new.lines (c.loop-count.count + 1)) c.args.records.now
          c.loop-count.records c.put_record.new.records
          c.loop-count.lock c.play_line.new.lock c.in-Ok-Some.line c.args.most c.loop-count.count
          c.in-Ok.record c.loop-count.invariant.playing c.loop-count-test.true read.first accepted
          c.play_line.ensures.after c.in-Ok.ensures.record c.put_record.ensures;
      whole = read.whole;
      few = omega (arith, room, c.loop-count.invariant.few);
      threads =
          same_threads c.loop-count.lock c.play_line.new.lock c.in-Ok-Some.line.thread
          c.in-Ok-Some.line.action accepted c.play_line.ensures.after
          ∙ c.loop-count.invariant.threads;
      words =
          same_words c.loop-count.lock c.play_line.new.lock c.in-Ok-Some.line.thread
          c.in-Ok-Some.line.action accepted c.play_line.ensures.after
          ∙ c.loop-count.invariant.words;
    }

pub returns-in-Err-clause-played : goal.returns-in-Err-clause-played
returns-in-Err-clause-played c =
    let read =
    next_read c.in-Ok-Some.line _ _ (rw c.in-Ok-Some.field-0-is at c.in-Ok-Some.ensures.read)
    c.loop-count.invariant.whole in
    turn_refused c.args.lock.now.state (moves_left c.args.lines 0)
    (moves_left c.loop-count.lines c.loop-count.count)
    (moves_left c.read_move.new.lines (c.loop-count.count + 1)) c.args.records.now
    c.loop-count.records c.loop-count.lock c.play_line.new.lock c.in-Ok-Some.line c.args.most
    c.loop-count.count c.in-Err.refusal c.loop-count.invariant.playing c.loop-count-test.true
    read.first (sym (ap refused_with c.in-Err.is) ∙ c.play_line.ensures.refused)
    c.play_line.ensures.after
