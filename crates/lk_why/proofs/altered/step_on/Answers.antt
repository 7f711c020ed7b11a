use Rattle.std.proofs.Common.{refl, sym, ◌∙◌}
use Rattle.lk_why.proofs.Boards.{alone_well, board_accepts, board_due, no_step, played}
use Rattle.lk_why.proofs.Boards.{played_few}
use Rattle.lk_why.proofs.Boards.{waits_leaves}
use Rattle.lk_why.proofs.altered.step_on.Goals as goal

pub restore-requires-clause-well : goal.restore-requires-clause-well
restore-requires-clause-well c =
    rw (c.at_start-board.ensures.start, c.threads.ensures.threads)
    (alone_well c.args.shape c.args.words.now c.args.t c.args.phase c.requires.words
    c.requires.phase c.requires.thread)

pub returns-in-None : goal.returns-in-None
returns-in-None c =
    let same =
    rw (c.at_start-board.ensures.start, c.threads.ensures.threads) at c.restore.ensures in
    let due =
    board_due c.args.shape c.args.words.now c.args.t c.args.phase c.restore.new.self
    c.next_step.result same c.requires.words.few c.requires.thread c.next_step.ensures in
    waits_leaves c.args.words.now c.args.phase _ c.waits.result
    (no_step c.args.shape.kind c.args.shape.bits c.args.words.now c.args.t c.args.phase
    (sym due ∙ c.in-None.is))
    c.waits.ensures.words c.waits.ensures.phase c.waits.ensures.half c.waits.ensures.outcome
    c.waits.ensures.entries

pub copy_of-requires : goal.copy_of-requires
copy_of-requires c =
    let same =
    rw (c.at_start-board.ensures.start, c.threads.ensures.threads) at c.restore.ensures in
    let accepted =
    board_accepts c.args.shape c.args.words.now c.args.t c.args.phase c.restore.new.self
    c.in-Some.due same c.requires.words.few c.requires.thread
    (sym c.next_step.ensures ∙ c.in-Some.is) in
    rw (c.as_slice.ensures.words, c.words.ensures.words)
    (played_few c.args.shape c.args.words.now c.args.t c.args.phase c.in-Some.due
    c.restore.new.self c.play.new.self same accepted c.play.ensures.after c.requires.words)

pub returns-in-Ok : goal.returns-in-Ok
returns-in-Ok c =
    let same =
    rw (c.at_start-board.ensures.start, c.threads.ensures.threads) at c.restore.ensures in
    let accepted =
    board_accepts c.args.shape c.args.words.now c.args.t c.args.phase c.restore.new.self
    c.in-Some.due same c.requires.words.few c.requires.thread
    (sym c.next_step.ensures ∙ c.in-Some.is) in
    played c.args.shape c.args.words.now c.args.t c.args.phase c.in-Some.due c.restore.new.self
    c.play.new.self _ same c.requires.words.few c.requires.thread accepted c.play.ensures.after
    (c.copy_of.ensures ∙ (c.as_slice.ensures.words ∙ c.words.ensures.words)) c.phase.ensures refl
    c.in-Ok.ensures.outcome (c.entries.ensures.entries ∙ c.in-Ok.ensures.entries)

pub returns-in-Err : goal.returns-in-Err
returns-in-Err c =
    let same =
    rw (c.at_start-board.ensures.start, c.threads.ensures.threads) at c.restore.ensures in
    let accepted =
    board_accepts c.args.shape c.args.words.now c.args.t c.args.phase c.restore.new.self
    c.in-Some.due same c.requires.words.few c.requires.thread
    (sym c.next_step.ensures ∙ c.in-Some.is) in
    absurd (cc (accepted, c.in-Err.ensures.refused))
