-- Invariants. The rule of the running ticket lock in counting form, and what follows from its
-- steps.
use Rattle.std.specs.Prelude.{◌≡◌, ℕ, ◌+◌, ◌^◌, ◌≤◌, List, [], ◌∷◌, length, ⊤}
use mathlib.Core.Option.{some}
use lib.ListN.{get_elem?}
use Rattle.atomic_table.specs.Seated.{TableId}
use Rattle.atomic_table.specs.Table.{Me, Step}
use Rattle.lk_workers.specs.declared.live.LivePhase.{LivePhase}
use Rattle.lk_workers.specs.declared.live.LivePhase.TheVariants.{Idle, Waiting}
use Rattle.lk_workers.specs.declared.live.rule.SeatState.{SeatState}
use Rattle.lk_workers.specs.Counting.{once_below}
use Rattle.lk_workers.specs.Seats.{Live, Table, access, with_access, next_of, serving_of}
use Rattle.lk_workers.specs.Seats.{sum_over_seats, ticket_indicator, AreApart}
use Rattle.lk_workers.specs.SeatSteps.{LiveStep}

abbrev pub Sees : Type 0
Sees = Me (Unit {0}) (List SeatState)

abbrev pub FitsPhase : ℕ → LivePhase → ℕ → ℕ → Type 0
FitsPhase serving Idle t taken = ⊤
FitsPhase serving Waiting t taken = 1 ≤ taken
FitsPhase serving phase t taken = (t ≡ serving) × (1 ≤ taken)

-- one seat by itself, when this ticket is served
abbrev pub Fits : ℕ → SeatState → Type 0
Fits serving r = FitsPhase serving r.phase r.ticket r.taken × (r.seen ≤ serving)

abbrev pub Each : (SeatState → Type 0) → List SeatState → Type 0
Each P [] = ⊤
Each P (r ∷ rs) = P r × Each P rs

-- one view by itself
abbrev pub ViewFits : ℕ → List SeatState → Type 0
ViewFits serving v = Each (Fits serving) v × (length v ≤ 2)

-- Each number from `serving` up to but not including `next` is the ticket of one seat, and each
-- other number of none
pub record Running (takes : ℕ) (s : Table) : Type 0 where
  pub two_words : length s.words ≡ 2
  pub served : serving_of s ≤ next_of s
  pub tickets : (x : ℕ)
      → sum_over_seats (ticket_indicator x) s.views + once_below x (serving_of s)
      ≡ once_below x (next_of s)
  pub seats : (id : ℕ) (v : List SeatState) → get_elem? s.views id ≡ some v
      → ViewFits (serving_of s) v
  pub taken : sum_over_seats (λ r. r.taken) s.views ≡ next_of s
  pub left : next_of s + sum_over_seats (λ r. r.left) s.views ≤ 2 ^ 40

-- a step of the only seat of a view, with a note of the word and the operand that the table's own
-- step has
abbrev pub OfOne : LiveStep → (SeatState → ℕ → Type 0) → Step (Unit {0}) → Sees → ℕ → Sees → Type 0
OfOne live tells st v found w =
    (r : SeatState) → v.0 ≡ r ∷ []
    → (w ≡ (with_access (access st.word st.first) (live.next r found) ∷ [], v.1))
    × tells r found

-- nothing changes, what one seat has is few, and two seats side by side are apart
abbrev pub Inspects : Step (Unit {0}) → Sees → ℕ → Sees → Type 0
Inspects st v found w =
    (w ≡ v) × (st.word ≡ 0)
    × ((r : SeatState) → v.0 ≡ r ∷ [] → (r.left ≤ 2 ^ 40) × (r.taken ≤ 2 ^ 40))
    × ((r q : SeatState) → v.0 ≡ r ∷ q ∷ [] → AreApart r q)

-- an idle seat of this lock, which may take at least this many tickets
abbrev pub IsIdleOf : TableId → ℕ → Live → Type 0
IsIdleOf lock takes s = (s.table ≡ lock) × (s.state.phase ≡ Idle) × (takes ≤ s.state.left)
