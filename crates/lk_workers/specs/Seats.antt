-- Definitions. The ghost state of a seat of the running ticket lock, and the thread of the ticket
-- machine that the seat represents.
--
-- The correspondence is this project's own: a seat is a thread, and each of its calls is one event
-- of the lock of Mellor-Crummey and Scott, "Algorithms for Scalable Synchronization on
-- Shared-Memory Multiprocessors", ACM TOCS 9(1), 1991, section 2.2.
use Rattle.std.specs.Prelude.{ℕ, ◌+◌, ◌≤◌, List, [], ◌∷◌, ◌++◌, slice_index, Option, Some, None, ⊤}
use Rattle.atomic_table.specs.Table.{State}
use Rattle.atomic_table.specs.Seated.{TableId}
use Rattle.lk_locks.specs.declared.kinds.Phase.{Phase}
use Rattle.lk_locks.specs.declared.kinds.Phase.TheVariants.{AwaitTurn, TicketInside, PassOn}
use Rattle.lk_workers.specs.declared.live.LivePhase.{LivePhase}
use Rattle.lk_workers.specs.declared.live.LivePhase.TheVariants.{Idle, Waiting, Inside, Leaving}
use Rattle.lk_workers.specs.declared.live.rule.Access.{Access}
use Rattle.lk_workers.specs.declared.live.rule.SeatState.{SeatState}
use Rattle.lk_workers.specs.Counting.{indicator, sum_over}

-- an atomic access of a seat: its word, and what it adds or stores there, 0 of a load
abbrev pub access : ℕ → ℕ → Access
access word operand = record { word = word; operand = operand }

-- a seat that made no step: the takes that it has left, and the `now_serving` that it knows of
abbrev pub new_seat : ℕ → ℕ → SeatState
new_seat left seen = record {
  phase = Idle;
  ticket = 0;
  left = left;
  taken = 0;
  seen = seen;
  loads = 0;
  made = [];
}

-- the seat with one access more
abbrev pub with_access : Access → SeatState → SeatState
with_access a r = record r { made = r.made ++ a ∷ [] }

abbrev pub with_seen : ℕ → SeatState → SeatState
with_seen n r = record r { seen = n }

-- the first seat of a view
abbrev pub first_of : List SeatState → SeatState
first_of [] = new_seat 0 0
first_of (r ∷ rs) = r

-- the state of a seat: the numbers that it keeps itself, and the loads and accesses of its view
abbrev pub seat_with : LivePhase → ℕ → ℕ → ℕ → ℕ → List SeatState → SeatState
seat_with phase ticket left taken seen v = record (first_of v) {
  phase = phase;
  ticket = ticket;
  left = left;
  taken = taken;
  seen = seen;
}

-- a seat as a contract sees it: its lock and its state
pub record Live : Type 0 where
  pub table : TableId
  pub state : SeatState

-- the two words, and the view of each seat that was made: no record if the seat was joined into
-- another, else one, or two between the two steps of `apart`
abbrev pub Table : Type 0
Table = State (Unit {0}) (List SeatState)

-- the sum of f over the seats of all views
abbrev pub sum_over_seats : (SeatState → ℕ) → List (List SeatState) → ℕ
sum_over_seats f views = sum_over (sum_over f) views

-- the two words
abbrev pub next_of : Table → ℕ
next_of s = slice_index s.words 0

abbrev pub serving_of : Table → ℕ
serving_of s = slice_index s.words 1

-- the ticket of a seat that is not idle
abbrev pub ticket_in : LivePhase → ℕ → Option ℕ
ticket_in Idle t = None
ticket_in phase t = Some t

-- the phase of the thread that a seat represents
abbrev pub thread_phase_in : LivePhase → ℕ → Phase
thread_phase_in Idle t = Rattle.lk_locks.specs.declared.kinds.Phase.TheVariants.Idle
thread_phase_in Waiting t = AwaitTurn t
thread_phase_in Inside t = TicketInside t
thread_phase_in Leaving t = PassOn t

abbrev pub thread_phase : SeatState → Phase
thread_phase r = thread_phase_in r.phase r.ticket

-- inside or leaving
abbrev pub IsHolding : LivePhase → Type 0
IsHolding Inside = ⊤
IsHolding Leaving = ⊤
IsHolding phase = ⊥

-- 1 if the seat has the ticket x, else 0
abbrev pub ticket_indicator_in : ℕ → LivePhase → ℕ → ℕ
ticket_indicator_in x Idle t = 0
ticket_indicator_in x phase t = indicator x t

abbrev pub ticket_indicator : ℕ → SeatState → ℕ
ticket_indicator x r = ticket_indicator_in x r.phase r.ticket

-- at most one of the two seats is inside or leaving, and no ticket is that of both
abbrev pub AreApart : SeatState → SeatState → Type 0
AreApart r q =
    ¬ (IsHolding r.phase × IsHolding q.phase)
    × ((x : ℕ) → ticket_indicator x r + ticket_indicator x q ≤ 1)
