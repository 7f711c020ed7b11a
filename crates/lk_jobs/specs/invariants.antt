-- Invariants: the part of a log that was read, and the logs on a shelf. No contract that the crate
-- exports rests on it.
use Rattle.std.specs.Prelude.{◌≡◌, ℕ, ◌<◌, List, Option, Some, IfSome, IsSomeAnd}
use Rattle.std.specs.List.{All}
use Rattle.lk_locks.specs.State.{Shape}
use Rattle.lk_order.specs.Logs.{Reading, ThreadLog}
use Rattle.lk_order.specs.Shelves.{IsUnfit, Shelved, log_at}
use Rattle.lk_order.specs.declared.shelf.Unfit.TheVariants as unfit
use Rattle.lk_jobs.specs.Orders.{IsInFile, Reads}
use Rattle.lk_jobs.specs.declared.order.search.BadLog.{BadLog}
use Rattle.lk_jobs.specs.declared.order.search.BadLog.TheVariants as bad

-- so much of an input was read as a log's
abbrev pub ReadsInput : Option (List ℕ) → Option (List ℕ) → Reading → Type 0
ReadsInput all left reading =
    IfSome all (λ text. IsSomeAnd left (λ rest. Reads text rest reading))

-- a log is of a thread of its lock, and so is each of its moves
pub record IsOwn (log : ThreadLog) : Type 0 where
  pub few : log.thread < log.header.threads
  pub own : All (λ line. line.thread ≡ log.thread) log.moves

-- a log at its thread's place, of the shelf's lock
pub record Stands (lock : Option Shape) (t : ℕ) (log : ThreadLog) : Type 0 where
  pub lock_is : lock ≡ Some log.header
  pub thread_is : log.thread ≡ t
  pub is_own : IsOwn log

-- the header of a log in a file
pub record IsOfLog {F : Type 0} (of_file : F → Option (List ℕ)) (header : Shape) : Type 0 where
  pub log : ThreadLog
  pub log_is : IsInFile of_file log
  pub header_is : log.header ≡ header
  pub some : 0 < header.threads

-- the lock is that of a file's log, and each log is at its place
pub record IsKept {F : Type 0} (of_file : F → Option (List ℕ)) (shelf : Shelved) : Type 0 where
  pub lock : IfSome shelf.lock (IsOfLog of_file)
  pub each : (t : ℕ) (log : ThreadLog) → log_at shelf t ≡ Some log → Stands shelf.lock t log

-- what is wrong with a log beside those on a shelf
abbrev pub IsBadBeside : Shelved → ThreadLog → BadLog → Type 0
IsBadBeside shelf log bad.OtherLock = IsUnfit shelf log unfit.OtherLock
IsBadBeside shelf log (bad.SecondLog t) = log.thread ≡ t
IsBadBeside shelf log (bad.OtherRun t) = log.thread ≡ t
IsBadBeside shelf log other = ⊥
