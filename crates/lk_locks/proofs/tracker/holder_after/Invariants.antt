use Rattle.std.proofs.Common.{◌≡◌, drop}
use Rattle.lk_locks.specs.Holding.{holder_after}
use Rattle.lk_locks.proofs.tracker.holder_after.Given as goal

abbrev pub invariant-loop-entry : goal.invariant-loop-entry
invariant-loop-entry l = record {
  rest : holder_after l.now (drop l.entry-index l.entries) ≡ holder_after l.fn.holder l.entries;
}
