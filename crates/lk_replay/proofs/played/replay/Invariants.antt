-- The replay so far and that of the rest are the replay of the schedule.
use Rattle.std.proofs.Common.{◌≡◌, ◌≤◌, drop, length}
use Rattle.lk_replay.specs.Replay.{replay_from, replayed_of}
use Rattle.lk_replay.proofs.Sofar.{after}
use Rattle.lk_replay.proofs.played.replay.Given as goal

abbrev pub invariant-loop-line : goal.invariant-loop-line
invariant-loop-line l = record {
  shown : after l.keeper l.accepted.items (replay_from l.keeper.state (drop l.line-index l.moves))
      ≡ replayed_of l.schedule;
  count : length l.accepted.items ≡ l.line-index;
  few : length l.moves ≤ 65536;
}
