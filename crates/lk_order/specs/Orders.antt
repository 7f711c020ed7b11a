-- Definitions. An order of a run's steps: of each thread it has the first lines of its log, in
-- order, and each line agrees with the lock as it is then.
use Rattle.std.specs.Prelude.{◌≡◌, ℕ, ◌<◌, ◌==◌, ◌++◌, ◌∷◌, [], List, length, take}
use Rattle.std.specs.Prelude.{Option, Some, None, Result, Ok, Err, filter}
use Rattle.std.specs.List.{All, slice_get}
use Rattle.lk_locks.specs.declared.kinds.Phase.TheVariants.{Idle}
use Rattle.lk_locks.specs.State.{Shape}
use Rattle.lk_trace.specs.Agreement.{Agrees}
use Rattle.lk_trace.specs.Checks.{Checked, lock_with, difference_of, answer_to, unless_other}
use Rattle.lk_trace.specs.Checks.{new_lock}
use Rattle.lk_trace.specs.declared.checker.Made.{Made as MadeMove}
use Rattle.lk_trace.specs.declared.difference.Difference.{Difference}
use Rattle.lk_trace.specs.declared.line.TraceLine.{TraceLine}
use Rattle.lk_order.specs.Logs.{ThreadLog}
use Rattle.lk_order.specs.Runs.{IsRunOf, moves_of}
use Rattle.lk_order.specs.declared.order.Placed.{Placed}
use Rattle.lk_order.specs.declared.order.Placed.TheVariants.{Made, Differs, Nothing}

-- the logs of a lock's threads, the lines that are placed, in their order, and the lock after them
pub record Ordered : Type 0 where
  pub header : Shape
  pub logs : List ThreadLog
  pub trace : List TraceLine
  pub lock : Checked

-- the lines that are thread t's
abbrev pub lines_by : ℕ → List TraceLine → List TraceLine
lines_by t trace = filter (λ line. line.thread == t) trace

-- how many lines of thread t are placed
abbrev pub placed_of : Ordered → ℕ → ℕ
placed_of o t = length (lines_by t o.trace)

-- the line of thread t's log that comes next
abbrev pub next_line : Ordered → ℕ → Option TraceLine
next_line o t = slice_get (moves_of o.logs t) (placed_of o t)

-- each line agrees with the lock after those before it
abbrev pub IsAccepted : Checked → List TraceLine → Type 0
IsAccepted c [] = Unit {0}
IsAccepted c (line ∷ rest) = Agrees c line × IsAccepted (lock_with c line) rest

abbrev pub after_lines : Checked → List TraceLine → Checked
after_lines c [] = c
after_lines c (line ∷ rest) = after_lines (lock_with c line) rest

-- each thread is idle: it is in no call, and holds nothing
abbrev pub AreIdle : Checked → Type 0
AreIdle c = All (λ phase. phase ≡ Idle) c.lock.state.phases

-- nobody is in a call and nobody holds after the first k lines
abbrev pub IsQuiet : Ordered → ℕ → Type 0
IsQuiet o k = AreIdle (after_lines (new_lock o.header) (take k o.trace))

-- the promise about an order
pub record IsOrder (o : Ordered) : Type 0 where
  pub run : IsRunOf o.header o.logs
  pub accepted : IsAccepted (new_lock o.header) o.trace
  pub lock_is : o.lock ≡ after_lines (new_lock o.header) o.trace
  pub each : (t : ℕ) → t < o.header.threads
      → lines_by t o.trace ≡ take (placed_of o t) (moves_of o.logs t)
  pub others : All (λ line. line.thread < o.header.threads) o.trace

-- no line of these logs is placed
abbrev pub new_order : Shape → List ThreadLog → Ordered
new_order header logs =
    record { header = header; logs = logs; trace = []; lock = new_lock header }

abbrev pub order_of : List ThreadLog → Option Ordered
order_of [] = None
order_of (first ∷ rest) = Some (new_order first.header (first ∷ rest))

-- a line more
abbrev pub with_line : Ordered → TraceLine → Ordered
with_line o line = record o { trace = o.trace ++ line ∷ []; lock = lock_with o.lock line }

-- a line is placed if it agrees with the lock
abbrev pub after_next : Ordered → Option TraceLine → Ordered
after_next o None = o
after_next o (Some line) = unless_other (difference_of o.lock line) (with_line o line) o

abbrev pub placed_as : Result MadeMove Difference → Placed
placed_as (Ok made) = Made made.outcome
placed_as (Err difference) = Differs difference

abbrev pub answer_next : Ordered → Option TraceLine → Placed
answer_next o None = Nothing
answer_next o (Some line) = placed_as (answer_to o.lock line)
