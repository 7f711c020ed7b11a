use Rattle.std.proofs.Common.{leb, rules}
use Rattle.std.proofs.lemmas.List.Sorted.{IsPartitionPoint-from_clause, IsPartitionedBy-leb}
use Rattle.lk_locks.proofs.Ascending.{never_falls, place_joins}
use Rattle.lk_locks.proofs.sequential.place_of.Goals as goal

pub returns-clause-joined : goal.returns-clause-joined
returns-clause-joined c =
    place_joins c.args.threads.now c.args.t _ c.partition_point.ensures.bound
    (IsPartitionPoint-from_clause (λ u. leb u c.args.t) _ _ c.partition_point.ensures.partitioned
    (IsPartitionedBy-leb (λ u. u) _ c.args.t (never_falls c.args.threads.now c.requires))
    (λ a r q k. search rules))
