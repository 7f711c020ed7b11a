use Rattle.std.proofs.Common.{◌≡◌, ◌<◌, ◌≤◌, ◌+◌, ◌⊎◌}
use Rattle.lk_order.specs.Orders.{IsQuiet}
use Rattle.lk_order.specs.Cuts.{IsBusy}
use Rattle.lk_order.proofs.pieces.end_of.Given as goal

abbrev pub invariant-loop-k : goal.invariant-loop-k
invariant-loop-k l = record {
  some : l.first < l.end;
  inside : l.end ≤ l.most;
  last : ((l.end ≡ l.most) × IsBusy l.order (l.first + 1) l.k)
      ⊎ (IsQuiet l.order l.end × IsBusy l.order (l.end + 1) l.k);
}
