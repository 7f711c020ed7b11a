use Rattle.std.proofs.Common.{[], arith, refl, ◌++◌, ◌∷◌}
use Rattle.lk_tests.specs.WorkedStates.{entering, releasing, not_granted, not_linked, not_passed_on}
use Rattle.lk_tests.specs.WorkedStates.{own_flag, still_counted}
use Rattle.lk_tests.specs.WorkedHistories.{ticket_moves, simple_moves, fifo_moves}
use Rattle.lk_locks.specs.declared.kinds.LockKind.TheVariants.{Ticket, Mcs, RwSimple, RwFifo}
use Rattle.lk_locks.specs.declared.kinds.Move.TheVariants.{Call, Step}
use Rattle.lk_locks.specs.declared.kinds.Op.TheVariants.{Release}
use Rattle.lk_locks.specs.declared.kinds.StepKind.TheVariants.{Read, Section}
use Rattle.lk_locks.proofs.progress.Going.{none_inside, none_waiting}
use Rattle.lk_tests.proofs.WorkedStates.{comes, stuck}
use Rattle.lk_tests.proofs.worked_states.locks_that_come_to_rest.Goals as goal

pub returns-clause-ticket : goal.returns-clause-ticket
returns-clause-ticket c = comes Ticket ticket_moves

pub returns-clause-mcs : goal.returns-clause-mcs
returns-clause-mcs c = comes Mcs (entering ++ releasing)

pub returns-clause-simple : goal.returns-clause-simple
returns-clause-simple c = comes RwSimple simple_moves

pub returns-clause-fifo : goal.returns-clause-fifo
returns-clause-fifo c = comes RwFifo fifo_moves

pub returns-clause-right_change : goal.returns-clause-right_change
returns-clause-right_change c = comes Mcs (entering ++ (0, Call Release) ∷ (0, Step Read) ∷ [])

pub returns-clause-not_granted : goal.returns-clause-not_granted
returns-clause-not_granted c =
    stuck not_granted refl (none_inside not_granted 0 refl (λ op may. may))
    (none_waiting not_granted 1 Read refl refl) (λ rests. cc (rests 1 (omega arith)))

pub returns-clause-not_linked : goal.returns-clause-not_linked
returns-clause-not_linked c =
    stuck not_linked refl (none_waiting not_linked 0 Read refl refl)
    (none_waiting not_linked 1 Read refl refl) (λ rests. cc (rests 1 (omega arith)))

pub returns-clause-not_passed_on : goal.returns-clause-not_passed_on
returns-clause-not_passed_on c =
    stuck not_passed_on refl (none_inside not_passed_on 0 refl (λ op may. may))
    (none_waiting not_passed_on 1 Read refl refl) (λ rests. cc (rests 1 (omega arith)))

pub returns-clause-still_counted : goal.returns-clause-still_counted
returns-clause-still_counted c =
    stuck still_counted refl (none_inside still_counted 0 refl (λ op may. may))
    (none_waiting still_counted 1 Section refl refl) (λ rests. cc (rests 1 (omega arith)))

pub returns-clause-own_flag : goal.returns-clause-own_flag
returns-clause-own_flag c =
    stuck own_flag refl (none_inside own_flag 0 refl (λ op may. may))
    (none_waiting own_flag 1 Section refl refl) (λ rests. cc (rests 1 (omega arith)))
