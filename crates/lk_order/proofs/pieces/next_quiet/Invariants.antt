use Rattle.lk_order.specs.Cuts.{IsBusy}
use Rattle.lk_order.proofs.pieces.next_quiet.Given as goal

abbrev pub invariant-loop-k : goal.invariant-loop-k
invariant-loop-k l = IsBusy l.order l.from l.k
