-- So many of the moves that are asked for were made, and the others are left.
use Rattle.std.proofs.Common.{◌≡◌, ◌-◌, ◌≤◌, length, take}
use Rattle.lk_replay.specs.Schedule.{AreMoves, moves_left}
use Rattle.lk_page.specs.Playing.{ArePlaying}
use Rattle.lk_page.proofs.playing.play_moves.Given as goal

abbrev pub invariant-loop-count : goal.invariant-loop-count
invariant-loop-count l = record {
  playing : ArePlaying l.initial.lock.state (take l.most (moves_left l.initial.lines 0))
      l.initial.records l.lock (take (l.most - l.count) (moves_left l.lines l.count)) l.count
      l.records;
  whole : AreMoves l.lines l.count;
  few : l.count ≤ 65536;
  threads : length l.lock.state.phases ≡ length l.initial.lock.state.phases;
  words : length l.lock.state.words ≡ length l.initial.lock.state.words;
}

abbrev pub decreases-loop-count : goal.decreases-loop-count
decreases-loop-count l = l.most - l.count
