-- The moves so far and those of the rest are the moves of all lines.
use Rattle.std.proofs.Common.{◌≡◌, ◌≤◌, length}
use Rattle.lk_replay.specs.Schedule.{moves_from}
use Rattle.lk_replay.proofs.Moves.{with_lines}
use Rattle.lk_replay.proofs.schedule.read_moves.Given as goal

abbrev pub invariant-loop-moves : goal.invariant-loop-moves
invariant-loop-moves l = record {
  read : with_lines l.moves.items (moves_from l.lines.number (length l.moves.items) l.lines.lines)
      ≡ moves_from l.initial.lines.number 0 l.initial.lines.lines;
  small : length l.moves.items ≤ 65536;
}

abbrev pub decreases-loop-moves : goal.decreases-loop-moves
decreases-loop-moves l = length l.lines.lines
