-- Each act preserves the invariant of the sequential object, and its lists have room.
use Rattle.std.proofs.Common.{rules}
use Rattle.lk_locks.proofs.Requests.{reader_fits, request_fits, sequential_kept}
use Rattle.lk_locks.specs.declared.kinds.Entry.TheVariants.{Acted}
use Rattle.lk_locks.specs.declared.kinds.Op.TheVariants.{Acquire, ReadLock, ReadUnlock, Release}
use Rattle.lk_replay.proofs.report.occupancy.OccupancyText.act.Goals as goal

pub join-requires-clause-few : goal.join-requires-clause-few
join-requires-clause-few c = request_fits _ c.args.t c.self.invariant (search rules)

pub invariant_of-self : goal.invariant_of-self
invariant_of-self c =
    rw c.join.ensures
    (sequential_kept _ (Acted c.args.t Acquire) c.self.invariant (search rules))

pub invariant_of-self-in-Release : goal.invariant_of-self-in-Release
invariant_of-self-in-Release c =
    rw c.leave.ensures
    (sequential_kept _ (Acted c.args.t Release) c.self.invariant (search rules))

pub join-requires-in-ReadLock-clause-few :
    goal.join-requires-in-ReadLock-clause-few
join-requires-in-ReadLock-clause-few c =
    reader_fits _ c.args.t c.self.invariant (search rules)

pub invariant_of-self-in-ReadLock : goal.invariant_of-self-in-ReadLock
invariant_of-self-in-ReadLock c =
    rw c.join-in-ReadLock.ensures
    (sequential_kept _ (Acted c.args.t ReadLock) c.self.invariant (search rules))

pub invariant_of-self-in-ReadUnlock : goal.invariant_of-self-in-ReadUnlock
invariant_of-self-in-ReadUnlock c =
    rw c.leave-in-ReadUnlock.ensures
    (sequential_kept _ (Acted c.args.t ReadUnlock) c.self.invariant (search rules))
