use Rattle.std.proofs.Common.{◌≡◌, ℕ, ◌<◌, None, IfSome}
use Rattle.lk_order.specs.Orders.{next_line}
use Rattle.lk_order.specs.Endings.{IsSuspect, IsWorst}
use Rattle.lk_order.proofs.find.suspect_in.Given as goal

abbrev pub invariant-loop-t : goal.invariant-loop-t
invariant-loop-t l = record {
  suspect : IfSome l.worst (λ s. IsSuspect l.order s.stuck.thread s);
  worst : IfSome l.worst (λ s. IsWorst l.order l.t s.stuck.thread);
  none : l.worst ≡ None → (k : ℕ) → k < l.t → next_line l.order k ≡ None;
}
