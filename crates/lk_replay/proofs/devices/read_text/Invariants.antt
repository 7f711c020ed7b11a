-- The text so far was taken from the reader.
use Rattle.std.proofs.Common.{length, ◌-◌, ◌≤◌}
use Rattle.std.specs.Io.KnownBytes.{Consumes}
use Rattle.lk_replay.proofs.devices.read_text.Given as goal

abbrev pub invariant-loop-chunk : goal.invariant-loop-chunk
invariant-loop-chunk g l = record {
  within : length l.text.items ≤ 1048577;
  taken : Consumes (g.R.Read.remaining l.initial.input) (g.R.Read.remaining l.input) l.text.items;
}

abbrev pub decreases-loop-chunk : goal.decreases-loop-chunk
decreases-loop-chunk g l = 1048577 - length l.text.items
