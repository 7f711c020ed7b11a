-- So many finishing moves were made.
use Rattle.std.proofs.Common.{◌≡◌, ◌-◌, ◌≤◌, length}
use Rattle.lk_page.specs.Finishing.{AreMade}
use Rattle.lk_page.proofs.finishing.make_finishing.Given as goal

abbrev pub invariant-loop-count : goal.invariant-loop-count
invariant-loop-count l = record {
  made : AreMade l.initial.lock.state l.lock.state l.count l.initial.codes l.codes;
  size : length l.codes ≡ length l.initial.codes;
  few : l.count ≤ length l.codes;
}

abbrev pub decreases-loop-count : goal.decreases-loop-count
decreases-loop-count l = length l.codes - l.count
