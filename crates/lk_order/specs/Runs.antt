-- Definitions. The logs of one run: one of each thread, in the order of the threads, and all of one
-- header.
use Rattle.std.specs.Prelude.{◌≡◌, ℕ, List, length, map, Some, IsSomeAnd, slice_index_or, []}
use Rattle.std.specs.List.{All, slice_get}
use Rattle.lk_locks.specs.State.{Shape}
use Rattle.lk_trace.specs.declared.line.TraceLine.{TraceLine}
use Rattle.lk_order.specs.Logs.{ThreadLog}

-- the log of thread t with this header: each of its moves is the thread's own
pub record IsLogOf (header : Shape) (t : ℕ) (log : ThreadLog) : Type 0 where
  pub header_is : log.header ≡ header
  pub thread_is : log.thread ≡ t
  pub own : All (λ line. line.thread ≡ t) log.moves

pub record IsRunOf (header : Shape) (logs : List ThreadLog) : Type 0 where
  pub one_each : length logs ≡ header.threads
  pub each : (t : ℕ) (log : ThreadLog) → slice_get logs t ≡ Some log → IsLogOf header t log

abbrev pub IsOneRun : List ThreadLog → Type 0
IsOneRun logs = IsSomeAnd (slice_get logs 0) (λ first. IsRunOf first.header logs)

-- the moves of thread t's log
abbrev pub moves_of : List ThreadLog → ℕ → List TraceLine
moves_of logs t = slice_index_or (map (λ log. log.moves) logs) t []
