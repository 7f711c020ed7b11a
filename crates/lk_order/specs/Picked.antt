-- Definitions. The record of an order: which line of whose log each step is, after which steps
-- nobody is in a call or holds, and how many lines of each thread are placed.
use Rattle.std.specs.Prelude.{◌≡◌, ℕ, ◌+◌, ◌<◌, ◌↔◌, IsTrue, Some, List, length, map}
use Rattle.std.specs.Prelude.{slice_index_or}
use Rattle.std.specs.List.{All, slice_get}
use Rattle.lk_locks.specs.declared.kinds.Move.TheVariants.{Step}
use Rattle.lk_locks.specs.declared.kinds.StepKind.TheVariants.{Read}
use Rattle.lk_locks.specs.State.{Shape}
use Rattle.lk_trace.specs.Checks.{Checked}
use Rattle.lk_trace.specs.declared.line.Seen.TheVariants.{Nothing}
use Rattle.lk_trace.specs.declared.line.TraceLine.{TraceLine}
use Rattle.lk_order.specs.Logs.{ThreadLog}
use Rattle.lk_order.specs.Runs.{moves_of}
use Rattle.lk_order.specs.Orders.{Ordered, IsOrder, IsQuiet, placed_of}
use Rattle.lk_order.specs.declared.order.Place.{Place}

-- no place has it: each is within its log
abbrev pub no_line : TraceLine
no_line = record { thread = 0; action = Step Read; seen = Nothing }

abbrev pub line_at : List ThreadLog → Place → TraceLine
line_at logs place = slice_index_or (moves_of logs place.thread) place.at no_line

abbrev pub lines_at : List ThreadLog → List Place → List TraceLine
lines_at logs places = map (line_at logs) places

-- the order whose steps are at these places
abbrev pub ordered_of : Shape → List ThreadLog → List Place → Checked → Ordered
ordered_of header logs places lock =
    record { header = header; logs = logs; trace = lines_at logs places; lock = lock }

abbrev pub IsInside : List ThreadLog → Place → Type 0
IsInside logs place = place.at < length (moves_of logs place.thread)

-- whether nobody is in a call or holds is kept with the step before
abbrev pub KeepsQuiet : Ordered → List Place → Type 0
KeepsQuiet o places =
    (k : ℕ) (place : Place) → slice_get places k ≡ Some place
    → IsTrue place.quiet ↔ IsQuiet o (k + 1)

pub record IsKept (o : Ordered) (places : List Place) (at : List ℕ) : Type 0 where
  pub order : IsOrder o
  pub own : (t : ℕ) → All (λ line. line.thread ≡ t) (moves_of o.logs t)
  pub inside : All (IsInside o.logs) places
  pub quiet : KeepsQuiet o places
  pub counted : (t : ℕ) → t < 256 → slice_index_or at t 0 ≡ placed_of o t
