-- Nothing is on a new shelf.
use Rattle.lk_jobs.proofs.Shelves.{kept_none}
use Rattle.lk_jobs.proofs.order.logs.take_logs.Goals as goal

pub loop-name-init : goal.loop-name-init
loop-name-init g c = record {
  kept = kept_none g.R.File.Read.remaining _ c.in_ok-new.ensures;
  bad = tt;
}
