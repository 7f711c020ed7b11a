-- The appended text and the rest are the whole text.
use Rattle.std.proofs.Common.{◌≡◌, ◌≤◌, ◌++◌, length}
use Rattle.lk_replay.proofs.report.push_rest.Given as goal

abbrev pub invariant-loop-place : goal.invariant-loop-place
invariant-loop-place l = record {
  parts : l.out.items ++ l.replay.text ≡ l.initial.out.items ++ l.initial.replay.text;
  room : 448 ≤ length l.place;
}

abbrev pub decreases-loop-place : goal.decreases-loop-place
decreases-loop-place l = l.replay.left
