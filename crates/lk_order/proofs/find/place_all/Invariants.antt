use Rattle.std.proofs.Common.{◌≡◌}
use Rattle.lk_order.proofs.find.place_all.Given as goal

abbrev pub invariant-loop : goal.invariant-loop
invariant-loop l = l.order.logs ≡ l.initial.order.logs
