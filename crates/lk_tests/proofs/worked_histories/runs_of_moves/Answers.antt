use Rattle.lk_tests.specs.WorkedHistories.{handover, announced_entered}
use Rattle.lk_locks.proofs.Runs.{promised_of}
use Rattle.lk_tests.proofs.WorkedHistories.{mcs_legal, fifo_legal}
use Rattle.lk_locks.specs.declared.kinds.LockKind.TheVariants.{Mcs, RwFifo}
use Rattle.lk_tests.proofs.worked_histories.runs_of_moves.Goals as goal

pub returns-clause-queue_lock : goal.returns-clause-queue_lock
returns-clause-queue_lock c = promised_of Mcs 2 handover mcs_legal

pub returns-clause-read_write_lock : goal.returns-clause-read_write_lock
returns-clause-read_write_lock c = promised_of RwFifo 2 announced_entered fifo_legal
