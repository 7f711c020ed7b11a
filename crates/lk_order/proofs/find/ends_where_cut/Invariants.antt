use Rattle.std.proofs.Common.{◌≡◌, ℕ, ◌<◌, None, Some}
use Rattle.std.specs.List.{slice_get}
use Rattle.lk_order.specs.Logs.{ThreadLog}
use Rattle.lk_order.specs.Orders.{next_line}
use Rattle.lk_order.proofs.find.ends_where_cut.Given as goal

abbrev pub invariant-loop-t : goal.invariant-loop-t
invariant-loop-t l =
    (k : ℕ) (log : ThreadLog) → k < l.t → slice_get l.order.logs k ≡ Some log
    → next_line l.order k ≡ None → log.dropped ≡ Some 0
