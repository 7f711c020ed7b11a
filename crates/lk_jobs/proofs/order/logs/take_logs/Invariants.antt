-- The logs so far are on the shelf, and what is wrong with one of them is so.
use Rattle.std.proofs.Common.{IfSome}
use Rattle.lk_jobs.specs.Orders.{IsBad}
use Rattle.lk_jobs.specs.invariants.{IsKept}
use Rattle.lk_jobs.proofs.order.logs.take_logs.Given as goal

abbrev pub invariant-loop-name : goal.invariant-loop-name
invariant-loop-name g l = record {
  kept : IsKept g.R.File.Read.remaining l.taken.shelf;
  bad : IfSome l.worst (IsBad g.R.File.Read.remaining);
}
