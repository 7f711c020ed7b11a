-- Invariants: the endings of the traces that were followed so far. No contract that the crate
-- exports rests on it.
use Rattle.std.specs.Prelude.{◌≡◌, ℕ, ◌+◌, List, length, Option}
use Rattle.std.specs.List.{All}
use Rattle.lk_text.specs.Verdicts.{EndsInput}
use Rattle.lk_text.specs.declared.report.Ending.{Ending}

-- so many endings more, which are those of inputs if the others are
pub record Adds {I : Type 0} (remaining : I → Option (List ℕ)) (count : ℕ) (old new : List Ending)
    : Type 0 where
  pub one_each : length new ≡ length old + count
  pub each : All (EndsInput remaining) old → All (EndsInput remaining) new
