-- The count so far and that of the rest are the count of all lines.
use Rattle.std.proofs.Common.{◌≡◌, ◌≤◌, length}
use Rattle.lk_replay.specs.Schedule.{move_count, moves_from}
use Rattle.lk_replay.proofs.Moves.{more}
use Rattle.lk_replay.proofs.schedule.count_moves.Given as goal

abbrev pub invariant-loop-count : goal.invariant-loop-count
invariant-loop-count l = record {
  read : more l.count (move_count (moves_from l.lines.number l.count l.lines.lines))
      ≡ more 0 (move_count (moves_from l.initial.lines.number 0 l.initial.lines.lines));
  small : l.count ≤ 65536;
}

abbrev pub decreases-loop-count : goal.decreases-loop-count
decreases-loop-count l = length l.lines.lines
