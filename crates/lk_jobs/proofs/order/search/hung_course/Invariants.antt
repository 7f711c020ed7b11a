-- Each thread that was looked at has no line left.
use Rattle.std.proofs.Common.{◌≡◌, ℕ, ◌<◌, None}
use Rattle.lk_order.specs.Orders.{next_line}
use Rattle.lk_jobs.proofs.order.search.hung_course.Given as goal

abbrev pub invariant-loop-t : goal.invariant-loop-t
invariant-loop-t l = (k : ℕ) → k < l.t → next_line l.order k ≡ None
