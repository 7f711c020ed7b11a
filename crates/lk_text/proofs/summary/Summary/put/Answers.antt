-- The sentence is filled with the counts.
use Rattle.lk_text.proofs.summary.Summary.put.Goals as goal

pub returns : goal.returns
returns c = rw (← c.threads-threads.ensures) c.fill.ensures
