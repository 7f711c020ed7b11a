use Rattle.std.proofs.Common.{◌≡◌, ◌+◌, ◌++◌, map, drop}
use Rattle.lk_workers.specs.Batch.{numbered_from, batch_text_of}
use Rattle.lk_workers.proofs.batch.batch_text.Given as goal

abbrev pub invariant-loop-place : goal.invariant-loop-place
invariant-loop-place l =
    l.text.items ++ numbered_from (l.place + 1) (map (λ r. r.items) (drop l.place l.reports))
    ≡ batch_text_of (map (λ r. r.items) l.reports)
