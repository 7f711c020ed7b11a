use Rattle.lk_locks.proofs.starvation.KeptOut
use Rattle.lk_locks.proofs.theorems.threads_in_no_queue_can_starve.Goals as goal

pub returns : goal.returns
returns c = record {
  simple_writer = KeptOut.simple_writer;
  simple_reader = KeptOut.simple_reader;
  fifo_reader = KeptOut.fifo_reader;
  fifo_writer = KeptOut.fifo_writer;
}
