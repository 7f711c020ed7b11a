-- The next line that is not skipped is read as `moves_from` reads it.
use Rattle.std.proofs.Common.{◌∙◌, sym}
use Rattle.lk_lines.specs.Lines.{IsNextMove}
use Rattle.lk_replay.proofs.Moves.{line_read, next_read, none_read, too_many}
use Rattle.lk_replay.proofs.schedule.read_move.Goals as goal
use Rattle.lk_replay.proofs.schedule.read_move.Goals.{Joined-next_move, in-Some}
use Rattle.lk_replay.proofs.schedule.read_move.Goals.{in-None+in-Some-next_line+in-Some-move_of}

pub returns-in_default-clause-read : goal.returns-in_default-clause-read
returns-in_default-clause-read c =
    rw (← c.in-None.ensures.none)
    (none_read _ c.args.taken _ _ _ c.in_default.ensures.none c.in_default.ensures.end)

pub returns-in_default-move_of-clause-fault : goal.returns-in_default-move_of-clause-fault
returns-in_default-move_of-clause-fault c =
    let line = c.in-Some-next_line.ensures in
    rw (← c.in-None.ensures.none)
    (line_read _ c.args.taken _ _ _ _ _ line.found line.read
    (sym c.move_of.ensures ∙ c.in_default-move_of.is))

next_is : (c : Joined-next_move) → let read = c.match-next_move.number in
    IsNextMove c.args.lines.now read.0 read.1 read.2 c.match-next_move.lines
next_is c = elim c.match-next_move.branch [
  | in-Some w ↦ rw (w.number-is, w.lines-is) w.in-Some.ensures.read
  | in-None+in-Some-next_line+in-Some-move_of w ↦
      let line = w.in-Some-next_line.ensures in
      rw (w.number-is, w.lines-is, ← w.in-None.ensures.none) (record {
        line = w.in-Some-next_line.line.now;
        found = line.found;
        read = line.read;
        move = sym w.move_of.ensures ∙ w.in-Some-move_of.is;
        counted = line.counted;
      })
]

pub returns-then-taken-eq-MOST_MOVES-clause-fault :
    goal.returns-then-taken-eq-MOST_MOVES-clause-fault
returns-then-taken-eq-MOST_MOVES-clause-fault c =
    let read = c.match-next_move.number in
    too_many _ _ (record { number = read.0; thread = read.1; action = read.2 }) c.args.taken
    (next_is c.before) c.if-taken-eq-MOST_MOVES.true

pub returns-clause-read : goal.returns-clause-read
returns-clause-read c =
    let read = c.match-next_move.number in
    next_read _ _ (record { number = read.0; thread = read.1; action = read.2 }) c.args.taken
    (next_is c.before) c.if-taken-eq-MOST_MOVES.false
