use Rattle.lk_locks.proofs.starvation.mcs
use Rattle.lk_locks.proofs.starvation.rw_fifo
use Rattle.lk_locks.proofs.starvation.ticket
use Rattle.lk_locks.proofs.theorems.nobody_in_a_queue_starves.Goals as goal

pub returns : goal.returns
returns c = record { ticket = ticket.free; mcs = mcs.free; fifo = rw_fifo.free }
