-- The calls by which a thread can leave.
use Rattle.std.proofs.Common.{arith, false, is_some, true, ◌≡◌}
use Rattle.lk_locks.specs.Locks.{after_call}
use Rattle.lk_locks.specs.Progress.{is_acquiring}
use Rattle.lk_locks.specs.Steps.{may_make}
use Rattle.lk_locks.specs.Types.{LockKind, Call, Op, Acquire, Downgrade, ReadLock, ReadUnlock}
use Rattle.lk_locks.specs.Types.{Release, WriteLock, WriteUnlock, Phase}

-- a thread that may not leave by one of three calls may make no call but for the lock
pub only_acquires : (kind : LockKind) (p : Phase) (op : Op)
    → is_some (after_call kind p Release) ≡ false → is_some (after_call kind p ReadUnlock) ≡ false
    → is_some (after_call kind p WriteUnlock) ≡ false → may_make kind p (Call op) ≡ true
    → is_acquiring kind (Call op) ≡ true
only_acquires kind p Acquire no_release no_read no_write may = grind arith
only_acquires kind p Release no_release no_read no_write may = grind arith
only_acquires kind p ReadLock no_release no_read no_write may = grind arith
only_acquires kind p ReadUnlock no_release no_read no_write may = grind arith
only_acquires kind p WriteLock no_release no_read no_write may = grind arith
only_acquires kind p WriteUnlock no_release no_read no_write may = grind arith
only_acquires kind p Downgrade no_release no_read no_write may = grind arith
