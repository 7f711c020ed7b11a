-- Invariants. The ticket lock: its phases, the entries that a pending call has still to add, and
-- how words and phases agree with the queue.
use Rattle.std.specs.Prelude.{◌≡◌, ℕ, ◌+◌, ◌%◌, ◌^◌, ◌<◌, List, [], ◌∷◌, length, slice_index}
use Rattle.std.specs.Prelude.{Option, None, Some, is_some, Bool, true, false}
use Rattle.lk_locks.specs.State.{phase_at}
use Rattle.lk_locks.specs.Change.{plus_one, acts}
use Rattle.lk_locks.specs.Sequential.{has}
use Rattle.lk_locks.specs.ticket.{next_ticket, now_serving, operation}
use Rattle.lk_locks.specs.invariants.Threads.{EachOnce}
use Rattle.lk_locks.specs.Types.{Phase, Idle, TakeTicket, AwaitTurn, TicketInside, ReadServing}
use Rattle.lk_locks.specs.Types.{PassOn, Acquire, Release, Entry, Returned}

-- a thread is idle, inside, or before a step
abbrev pub is_phase : Phase → Bool
is_phase Idle = true
is_phase (TicketInside t) = true
is_phase p = is_some (operation 64 p)

-- the entries that the pending call of thread i has still to add to the history
abbrev pub owed_of : ℕ → Phase → List Entry
owed_of i TakeTicket = acts i Acquire
owed_of i (AwaitTurn t) = Returned i Acquire ∷ []
owed_of i (ReadServing t) = acts i Release
owed_of i (PassOn v) = acts i Release
owed_of i p = []

-- the ticket that a thread has
abbrev pub ticket_of : Phase → Option ℕ
ticket_of (AwaitTurn t) = Some t
ticket_of (TicketInside t) = Some t
ticket_of (ReadServing t) = Some t
ticket_of (PassOn t) = Some t
ticket_of p = None

-- the threads have the tickets from x on, and wait
abbrev pub AwaitTurns : ℕ → List Phase → ℕ → List ℕ → Type 0
AwaitTurns bits ps x [] = Unit {0}
AwaitTurns bits ps x (t ∷ ts) =
    (phase_at ps t ≡ AwaitTurn x) × AwaitTurns bits ps (plus_one bits x) ts

-- the threads have the tickets from x on, and all but the first wait
abbrev pub HoldTickets : ℕ → List Phase → ℕ → List ℕ → Type 0
HoldTickets bits ps x [] = Unit {0}
HoldTickets bits ps x (t ∷ ts) =
    (ticket_of (phase_at ps t) ≡ Some x) × AwaitTurns bits ps (plus_one bits x) ts

-- The queue is the threads with a ticket, in the order of the tickets. A word has more values than
-- there are threads, so tickets differ.
pub record IsQueue (bits : ℕ) (ws : List ℕ) (ps : List Phase) (queue : List ℕ) : Type 0 where
  pub narrow : length ps < 2 ^ bits
  pub serving : slice_index ws now_serving < 2 ^ bits
  pub tickets : HoldTickets bits ps (slice_index ws now_serving) queue
  pub next : slice_index ws next_ticket ≡ (slice_index ws now_serving + length queue) % 2 ^ bits
  pub once : EachOnce queue
  pub members : (t : ℕ) → has queue t ≡ true → t < length ps
  pub others : (t : ℕ) → has queue t ≡ false → ticket_of (phase_at ps t) ≡ None
