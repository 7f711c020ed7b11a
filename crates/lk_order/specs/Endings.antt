-- Definitions. An order ends with all lines placed, at the end of a log that was cut short, or at
-- the step that is most certainly wrong.
use Rattle.std.specs.Prelude.{◌≡◌, ◌≢◌, ℕ, ◌<◌, ◌≤◌, Option, Some, None, IsSomeAnd}
use Rattle.std.specs.List.{All, slice_get}
use Rattle.std.specs.Option.{option_map_or}
use Rattle.lk_trace.specs.Checks.{count_given, difference_of}
use Rattle.lk_trace.specs.declared.difference.Difference.{Difference}
use Rattle.lk_trace.specs.declared.difference.Difference.TheVariants as differs
use Rattle.lk_order.specs.Logs.{ThreadLog}
use Rattle.lk_order.specs.Runs.{moves_of}
use Rattle.lk_order.specs.Orders.{Ordered, lines_by, next_line, placed_of}
use Rattle.lk_order.specs.declared.find.Stuck.{Stuck}
use Rattle.lk_order.specs.declared.find.Suspect.{Suspect}
use Rattle.lk_order.specs.declared.find.Ending.{Ending}
use Rattle.lk_order.specs.declared.find.Ending.TheVariants as ending

-- how likely another step is to blame for a step that cannot be placed: 0 if it is surely this one
abbrev pub doubt_of : Option Difference → ℕ
doubt_of (Some (differs.Refused refusal)) = 0
doubt_of (Some (differs.OtherWord word given)) = 0
doubt_of (Some (differs.LeftOther word left given)) = 0
doubt_of (Some (differs.OtherOutcome outcome given)) = 1
doubt_of (Some (differs.FoundOther word found given)) = 2
doubt_of (Some (differs.WroteOther wrote)) = 2
doubt_of (Some (differs.CountNotAbove last given)) = 2
doubt_of None = 3

-- of thread t's next step; 4 if none is left
abbrev pub doubt_at : Ordered → ℕ → ℕ
doubt_at o t = option_map_or (λ line. doubt_of (difference_of o.lock line)) (next_line o t) 4

-- the count of its section, or 0
abbrev pub count_at : Ordered → ℕ → ℕ
count_at o t = option_map_or (λ line. count_given 0 line.seen) (next_line o t) 0

-- Of the first k threads none has a next step that is more certainly wrong than thread t's. Of
-- those that are as doubtful, its section has the lowest count, and of these t is the first.
pub record IsWorst (o : Ordered) (k t : ℕ) : Type 0 where
  pub least : (other : ℕ) → other < k → doubt_at o t ≤ doubt_at o other
  pub lowest : (other : ℕ) → other < k → doubt_at o other ≡ doubt_at o t
      → count_at o t ≤ count_at o other
  pub first : (other : ℕ) → other < t → doubt_at o other ≡ doubt_at o t
      → count_at o t < count_at o other

-- of each thread all lines are placed, and no log is cut short
pub record IsWhole (o : Ordered) : Type 0 where
  pub all : (t : ℕ) → t < o.header.threads → lines_by t o.trace ≡ moves_of o.logs t
  pub uncut : All (λ log. log.dropped ≡ Some 0) o.logs

-- a log is cut short, and all of it is placed
pub record EndsWhereCut (o : Ordered) : Type 0 where
  pub t : ℕ
  pub log : ThreadLog
  pub is : slice_get o.logs t ≡ Some log
  pub cut : log.dropped ≢ Some 0
  pub all : next_line o t ≡ None

-- that may be why no other step can be placed, since none is surely wrong
pub record IsCut (o : Ordered) : Type 0 where
  pub ends : EndsWhereCut o
  pub doubted : (t : ℕ) → t < o.header.threads → 0 < doubt_at o t

-- the step is the next of its thread, and differs so from the lock
pub record IsNext (o : Ordered) (s : Stuck) : Type 0 where
  pub next : IsSomeAnd (next_line o s.thread) (λ line. s.difference ≡ difference_of o.lock line)
  pub at_is : s.at ≡ placed_of o s.thread

-- a thread's next step, with its doubt and the count of its section
pub record IsSuspect (o : Ordered) (t : ℕ) (s : Suspect) : Type 0 where
  pub step : IsNext o s.stuck
  pub thread_is : s.stuck.thread ≡ t
  pub doubt_is : s.doubt ≡ doubt_at o t
  pub below : s.doubt < 4
  pub count_is : s.count ≡ count_at o t

-- the step that is most certainly wrong; if a log is cut short, it is surely wrong
pub record IsStuck (o : Ordered) (s : Stuck) : Type 0 where
  pub step : IsNext o s
  pub worst : IsWorst o o.header.threads s.thread
  pub sure : EndsWhereCut o → doubt_at o s.thread ≡ 0

abbrev pub EndsAs : Ordered → Ending → Type 0
EndsAs o ending.Whole = IsWhole o
EndsAs o ending.Cut = IsCut o
EndsAs o (ending.Stuck s) = IsStuck o s
