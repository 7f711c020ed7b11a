-- Definitions. The logs of a run that were taken so far, and which log is none of the run.
use Rattle.std.specs.Prelude.{◌≡◌, ◌≢◌, ◌<◌, ℕ, List, replicate, slice_set, slice_index_or}
use Rattle.std.specs.Prelude.{Option, Some, None, IfSome, IsSome, IsSomeAnd}
use Rattle.std.specs.List.{flat_map}
use Rattle.std.specs.Option.{option_map_or, option_to_list}
use Rattle.lk_locks.specs.State.{Shape}
use Rattle.lk_order.specs.Logs.{ThreadLog}
use Rattle.lk_order.specs.declared.shelf.Unfit.{Unfit}
use Rattle.lk_order.specs.declared.shelf.Unfit.TheVariants.{OtherLock, SecondLog}

-- the lock of the logs, and at place t thread t's log
pub record Shelved : Type 0 where
  pub lock : Option Shape
  pub places : List (Option ThreadLog)

-- no log was taken
abbrev pub empty_shelf : Shelved
empty_shelf = record { lock = None; places = replicate 64 None }

abbrev pub log_at : Shelved → ℕ → Option ThreadLog
log_at shelf t = slice_index_or shelf.places t None

-- a log of the same lock as those before it
abbrev pub IsOfLock : Shelved → ThreadLog → Type 0
IsOfLock shelf log = IfSome shelf.lock (λ lock. lock ≡ log.header)

abbrev pub IsUnfit : Shelved → ThreadLog → Unfit → Type 0
IsUnfit shelf log OtherLock = IsSomeAnd shelf.lock (λ lock. lock ≢ log.header)
IsUnfit shelf log SecondLog = IsOfLock shelf log × IsSome (log_at shelf log.thread)

-- a log is taken: the first of its thread
pub record IsTaken (old new : Shelved) (log : ThreadLog) : Type 0 where
  pub lock : IsOfLock old log
  pub first : log_at old log.thread ≡ None
  pub new_is : new ≡ record {
    lock = Some log.header;
    places = slice_set old.places log.thread (Some log);
  }

-- how many threads have a log if none is missing
abbrev pub threads_of : Option Shape → ℕ
threads_of lock = option_map_or (λ h. h.threads) lock 1

abbrev pub HaveLogs : Shelved → ℕ → Type 0
HaveLogs shelf n = (t : ℕ) → t < n → IsSome (log_at shelf t)

-- thread t is the first that has no log
pub record IsFirstWithout (shelf : Shelved) (t : ℕ) : Type 0 where
  pub below : t < threads_of shelf.lock
  pub none : log_at shelf t ≡ None
  pub before : HaveLogs shelf t

-- all logs, in the order of their threads
abbrev pub logs_of : Shelved → List ThreadLog
logs_of shelf = flat_map option_to_list shelf.places
