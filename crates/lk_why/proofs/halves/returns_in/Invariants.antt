use Rattle.std.proofs.Common.{◌≡◌, ◌≤◌, length, take}
use Rattle.std.specs.List.{filter}
use Rattle.lk_why.specs.Halves.{is_no_act}
use Rattle.lk_why.proofs.halves.returns_in.Given as goal

abbrev pub invariant-loop-entry : goal.invariant-loop-entry
invariant-loop-entry l = record {
  filtered : l.others.items ≡ filter is_no_act (take l.entry-index l.entries);
  few : length l.others.items ≤ l.entry-index;
}
