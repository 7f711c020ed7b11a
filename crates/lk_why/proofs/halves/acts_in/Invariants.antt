use Rattle.std.proofs.Common.{◌≡◌, ◌≤◌, length, take}
use Rattle.std.specs.List.{filter}
use Rattle.lk_why.specs.Halves.{is_act}
use Rattle.lk_why.proofs.halves.acts_in.Given as goal

abbrev pub invariant-loop-entry : goal.invariant-loop-entry
invariant-loop-entry l = record {
  filtered : l.acts.items ≡ filter is_act (take l.entry-index l.entries);
  few : length l.acts.items ≤ l.entry-index;
}
