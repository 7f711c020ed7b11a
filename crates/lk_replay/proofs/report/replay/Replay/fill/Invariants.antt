-- The printed lines and the rest are the whole report, and a line has room.
use Rattle.std.proofs.Common.{◌≡◌, ◌+◌, ◌<◌, ◌≤◌, ◌++◌, length, take}
use Rattle.lk_replay.proofs.report.replay.Replay.fill.Given as goal

abbrev pub invariant-loop-self : goal.invariant-loop-self
invariant-loop-self l = record {
  text : l.initial.self.text ≡ take l.len l.place ++ l.self.text;
  room : l.len + 448 ≤ length l.place;
  same : length l.place ≡ length l.initial.place;
  some : 0 < l.self.left;
  fewer : l.self.left ≤ l.initial.self.left;
  ending : l.self.ending ≡ l.initial.self.ending;
}

abbrev pub decreases-loop-self : goal.decreases-loop-self
decreases-loop-self l = l.self.left
