use Rattle.std.proofs.Common.{refl, ◌≡◌}
use Rattle.lk_locks.specs.{Progress.state_after, State.phase_at}
use Rattle.lk_locks.specs.declared.kinds.Phase.TheVariants.{Idle}
use Rattle.lk_tests.specs.WorkedStates.{finishing, late_link}
use Rattle.lk_tests.proofs.WorkedHistories.{two_threads}
use Rattle.lk_tests.proofs.worked_states.finishing_moves.Goals as goal

pub returns-clause-rest : goal.returns-clause-rest
returns-clause-rest c =
    two_threads (λ t. phase_at (state_after late_link finishing).phases t ≡ Idle) refl refl
