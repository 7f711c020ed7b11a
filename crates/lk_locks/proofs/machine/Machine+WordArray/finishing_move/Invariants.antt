use Rattle.std.proofs.Common.{ℕ, ◌<◌}
use Rattle.lk_locks.specs.Progress.{IsFinishing}
use Rattle.lk_locks.specs.Types.{Move}
use Rattle.lk_locks.proofs.machine.Machine+WordArray.finishing_move.Given as goal

abbrev pub invariant-loop-t : goal.invariant-loop-t
invariant-loop-t l = (t : ℕ) → t < l.t → (m : Move) → ¬ IsFinishing l.self t m
