use Rattle.lk_locks.proofs.starvation.mcs
use Rattle.lk_locks.proofs.starvation.rw_fifo
use Rattle.lk_locks.proofs.starvation.ticket
use Rattle.lk_locks.specs.declared.kinds.LockKind.TheVariants.{Ticket, Mcs, RwFifo}
use Rattle.lk_locks.specs.declared.kinds.Phase.TheVariants.{AwaitTurn, AwaitGrant, AwaitReaders}
use Rattle.lk_tests.proofs.WorkedWaits.{cannot_starve}
use Rattle.lk_tests.proofs.worked_waits.threads_that_cannot_starve.Goals as goal

pub returns : goal.returns
returns c = record {
  ticket = λ number. cannot_starve Ticket (AwaitTurn number) 6 ticket.free tt;
  mcs = cannot_starve Mcs AwaitGrant 13 mcs.free tt;
  fifo = cannot_starve RwFifo AwaitReaders 3 rw_fifo.free tt;
}
