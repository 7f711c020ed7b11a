-- Definitions. The state of the running ticket lock between any two atomic steps, and the call and
-- step of the ticket machine that each step is.
--
-- The machine is that of Mellor-Crummey and Scott, ACM TOCS 9(1), 1991, section 2.2, whose rows are
-- in `laws` of lk_locks; the seats and the correspondence are this project's own.
use Rattle.std.specs.Prelude.{◌≢◌, ◌≡◌, ℕ, ◌+◌, ◌^◌, ◌<◌, ◌≤◌, ◌++◌, List, [], ◌∷◌, slice_index}
use Rattle.std.specs.Prelude.{slice_set, length, Option, None, Some}
use mathlib.Core.Option.{some}
use lib.ListN.{get_elem?}
use Rattle.atomic_table.specs.Table.{Act, stepped}
use Rattle.lk_locks.specs.declared.kinds.Phase.{Phase}
use Rattle.lk_locks.specs.declared.kinds.Op.{Op}
use Rattle.lk_locks.specs.declared.kinds.Outcome.{Outcome}
use Rattle.lk_locks.specs.Change.{Change}
use Rattle.lk_locks.specs.Locks.{after_call, step_of}
use Rattle.lk_locks.specs.declared.kinds.LockKind.TheVariants.{Ticket}
use Rattle.lk_workers.specs.declared.live.LivePhase.{LivePhase}
use Rattle.lk_workers.specs.declared.live.LivePhase.TheVariants.{Idle, Waiting}
use Rattle.lk_workers.specs.declared.live.rule.SeatState.{SeatState}
use Rattle.lk_workers.specs.Seats.{Table, next_of, serving_of, sum_over_seats, thread_phase}
use Rattle.lk_workers.specs.Seats.{IsHolding}
use Rattle.lk_workers.specs.SeatSteps.{LiveStep, table_after}
use Rattle.lk_workers.specs.invariants.Running.{Running}

-- a seat that was made: the number of its view, and its place there
abbrev pub IsAt : List (List SeatState) → ℕ → ℕ → SeatState → Type 0
IsAt views id k r = (v : List SeatState) × (get_elem? views id ≡ some v) × (get_elem? v k ≡ some r)

-- the seat has the ticket t
abbrev pub HasTicket : ℕ → SeatState → Type 0
HasTicket t r = (r.phase ≢ Idle) × (r.ticket ≡ t)

-- the words and the seats are a state of the ticket lock
pub record LockState (s : Table) : Type 0 where
  pub order : serving_of s ≤ next_of s
  pub waiting : (id k : ℕ) (r : SeatState) → IsAt s.views id k r → r.phase ≡ Waiting
      → (serving_of s ≤ r.ticket) × (r.ticket < next_of s)
  -- a seat that is inside or leaves has the ticket that is served
  pub holding : (id k : ℕ) (r : SeatState) → IsAt s.views id k r → IsHolding r.phase
      → (r.ticket ≡ serving_of s) × (serving_of s < next_of s)
  -- the tickets of two seats differ
  pub differ : (id k id' k' : ℕ) (r r' : SeatState) (t : ℕ) → IsAt s.views id k r
      → IsAt s.views id' k' r' → HasTicket t r → HasTicket t r' → (id ≡ id') × (k ≡ k')
  -- each number from `serving` up to but not including `next` is the ticket of a seat
  pub each : (t : ℕ) → serving_of s ≤ t → t < next_of s
      → (id : ℕ) × (k : ℕ) × (r : SeatState) × IsAt s.views id k r × HasTicket t r
  pub taken : sum_over_seats (λ r. r.taken) s.views ≡ next_of s
  pub some_taken : (id k : ℕ) (r : SeatState) → IsAt s.views id k r → r.phase ≢ Idle → 1 ≤ r.taken
  pub left : next_of s + sum_over_seats (λ r. r.left) s.views ≤ 2 ^ 40
  pub seen : (id k : ℕ) (r : SeatState) → IsAt s.views id k r → r.seen ≤ serving_of s
  pub two_at_most : (id : ℕ) (v : List SeatState) → get_elem? s.views id ≡ some v → length v ≤ 2

-- a state of the lock has these two words, and in it the view of a seat is `r` alone
abbrev pub IsEnd : ℕ → ℕ → SeatState → Type 0
IsEnd next serving r =
    (s : Table) × LockState s × (next_of s ≡ next) × (serving_of s ≡ serving)
    × ((id : ℕ) × (get_elem? s.views id ≡ some (r ∷ [])))

abbrev pub RuleIsTheLock : Type 0
RuleIsTheLock = (takes : ℕ) (s : Table) → Running takes s → LockState s

-- A step of one seat, a split of it or a join of another into it leaves the view of each other seat
-- as it is. So a seat that was dropped, and takes no part in any, keeps its view
abbrev pub OthersStay : Type 0
OthersStay = (s : Table) (id j : ℕ) → j ≢ id
    → ((i n : ℕ) (c : List (ℕ × Unit {0})) (w : List SeatState) (a : Act (Unit {0}))
    → get_elem? (stepped s i n id c w a).views j ≡ get_elem? s.views j)
    × ((v left right : List SeatState) → get_elem? s.views j ≡ some v
    → get_elem? (slice_set s.views id left ++ right ∷ []) j ≡ some v)
    × ((other : ℕ) (both spent : List SeatState) → j ≢ other
    → get_elem? (slice_set (slice_set s.views id both) other spent) j ≡ get_elem? s.views j)

-- a thread in this phase makes this call, if there is one, and is then in the phase `due`
abbrev pub IsDue : Phase → Option Op → Phase → Type 0
IsDue phase None due = due ≡ phase
IsDue phase (Some op) due = after_call Ticket phase op ≡ Some due

-- a row of `laws`, for each thread and on all words, leads to this seat's phase and this outcome
abbrev pub LeadsTo : (ℕ → List ℕ → Change) → SeatState → Outcome → Type 0
LeadsTo row r outcome =
    (i : ℕ) (ws : List ℕ) → ((row i ws).phase ≡ thread_phase r) × ((row i ws).outcome ≡ outcome)

-- From s to s' the thread of this seat makes the call, if there is one, and then its next step. The
-- step makes this change, and all else stays
pub record Happens (s s' : Table) (id : ℕ) (r : SeatState) (call : Option Op) (change : Change)
    : Type 0 where
  pub seat : (q : SeatState) × (get_elem? s'.views id ≡ some (q ∷ []))
      × (thread_phase q ≡ change.phase)
  pub words : s'.words ≡ change.words
  pub other_seats : (j : ℕ) → j ≢ id → get_elem? s'.views j ≡ get_elem? s.views j
  -- it is the step that the ticket machine of 64 bits makes on these words
  pub machine : (due : Phase) × IsDue (thread_phase r) call due
      × (step_of Ticket 64 s.words id due ≡ change)

-- The step of a seat in this phase is this call, if there is one, and the row of `laws` for the
-- thread, by what the seat was, by the word found and by the words afterwards
abbrev pub IsEvent : LiveStep → LivePhase → Option Op → (ℕ → SeatState → ℕ → List ℕ → Change)
    → Type 0
IsEvent live phase call row =
    (takes id : ℕ) (s : Table) (r : SeatState) → Running takes s
    → get_elem? s.views id ≡ some (r ∷ []) → r.phase ≡ phase
    → let next : Table = table_after live id s r in
    Happens s next id r call (row id r (slice_index s.words live.word) next.words)
