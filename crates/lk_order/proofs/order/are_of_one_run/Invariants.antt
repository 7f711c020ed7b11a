use Rattle.std.proofs.Common.{◌≡◌, ℕ, ◌<◌, Some}
use Rattle.std.specs.List.{slice_get}
use Rattle.lk_order.specs.Logs.{ThreadLog}
use Rattle.lk_order.specs.Runs.{IsLogOf}
use Rattle.lk_order.proofs.order.are_of_one_run.Given as goal

abbrev pub invariant-loop-t : goal.invariant-loop-t
invariant-loop-t l =
    (k : ℕ) (log : ThreadLog) → k < l.t → slice_get l.logs k ≡ Some log
    → IsLogOf l.header k log
