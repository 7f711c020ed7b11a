-- The sent bytes and the rest are the whole text.
use Rattle.std.proofs.Common.{[], ◌≡◌, ◌<◌, ◌≤◌, length}
use Rattle.lk_replay.proofs.Passed.{IsUnderWay}
use Rattle.lk_replay.proofs.stream.send_rest.Given as goal

abbrev pub invariant-loop-ending : goal.invariant-loop-ending
invariant-loop-ending g l = record {
  way : IsUnderWay l.initial.replay.text l.replay.text [] (g.W.Write.contents l.initial.output)
      (g.W.Write.contents l.output);
  ending : l.replay.ending ≡ l.initial.replay.ending;
  some : 0 < l.replay.left;
  room : 448 ≤ length l.place;
}

abbrev pub decreases-loop-ending : goal.decreases-loop-ending
decreases-loop-ending g l = l.replay.left
