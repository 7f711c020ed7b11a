-- Definitions. The atomic steps of the running ticket lock, each a step of one seat on one of the
-- two words: word 0 is `next_ticket`, word 1 `now_serving`. After the ticket lock of Mellor-Crummey
-- and Scott, ACM TOCS 9(1), 1991, section 2.2.
use Rattle.std.specs.Prelude.{ℕ, ◌+◌, ◌-◌, ◌%◌, ◌^◌, ◌==◌, max, List, [], ◌∷◌, ◌++◌, slice_index}
use Rattle.std.specs.Prelude.{if◌then◌else◌}
use Rattle.atomic_table.specs.Table.{keeps, stepped}
use Rattle.lk_workers.specs.declared.live.LivePhase.TheVariants.{Idle, Waiting, Inside, Leaving}
use Rattle.lk_workers.specs.declared.live.rule.SeatState.{SeatState}
use Rattle.lk_workers.specs.Seats.{Table, new_seat, access, with_access, with_seen}

-- the step's word, the number that it adds or stores there, the value that it leaves there by the
-- value found, and the seat afterwards but for the note of the access
pub record LiveStep : Type 0 where
  pub word : ℕ
  pub operand : SeatState → ℕ
  pub leaves : SeatState → ℕ → ℕ
  pub next : SeatState → ℕ → SeatState

abbrev pub live_step : ℕ → (SeatState → ℕ) → (SeatState → ℕ → ℕ) → (SeatState → ℕ → SeatState)
    → LiveStep
live_step word operand leaves next =
    record { word = word; operand = operand; leaves = leaves; next = next }

-- the seat after the step, with the step's access
abbrev pub seat_after : LiveStep → SeatState → ℕ → SeatState
seat_after st r found = with_access (access st.word (st.operand r)) (st.next r found)

-- the fetch-and-add of `take`
abbrev pub take_step : LiveStep
take_step = live_step 0 (λ r. 1) (λ r found. (found + 1) % 2 ^ 64) (λ r found. record r {
  phase = Waiting;
  ticket = found;
  left = r.left - 1;
  taken = r.taken + 1;
})

-- the load of `look`
abbrev pub look_step : LiveStep
look_step = live_step 1 (λ r. 0) (λ r found. found) (λ r found. record r {
  phase = if found == r.ticket then Inside else Waiting;
  seen = found;
  loads = r.loads + 1;
})

-- the load of `read_serving`
abbrev pub read_step : LiveStep
read_step = live_step 1 (λ r. 0) (λ r found. found)
    (λ r found. record r { phase = Leaving; seen = found; loads = r.loads + 1 })

-- the store of `pass`
abbrev pub pass_step : LiveStep
pass_step = live_step 1 (λ r. r.ticket + 1) (λ r found. r.ticket + 1)
    (λ r found. record r { phase = Idle; ticket = 0; seen = r.ticket + 1 })

-- the table after such a step of the seat with this number
abbrev pub table_after : LiveStep → ℕ → Table → SeatState → Table
table_after st id s r =
    let found : ℕ = slice_index s.words st.word in
    stepped s st.word (st.leaves r found) id [] (seat_after st r found ∷ []) keeps

-- the one idle seat that two become
abbrev pub join_of : SeatState → SeatState → SeatState
join_of r q = record {
  phase = Idle;
  ticket = 0;
  left = r.left + q.left;
  taken = r.taken + q.taken;
  seen = max r.seen q.seen;
  loads = r.loads + q.loads;
  made = r.made ++ q.made;
}

-- a seat from which takes are split off, and the new seat with them
abbrev pub rest_of : ℕ → SeatState → SeatState
rest_of a r = record r { left = r.left - a }

abbrev pub share_of : ℕ → SeatState → SeatState
share_of a r = new_seat a r.seen

-- the view of the one idle seat that two become
abbrev pub merge_of : List SeatState → List SeatState → List SeatState
merge_of (r ∷ rs) (q ∷ qs) = join_of r q ∷ []
merge_of v w = []

-- two seats side by side in one view, which know as much as each other
abbrev pub pair_of : List SeatState → List SeatState → List SeatState
pair_of (r ∷ rs) (q ∷ qs) = with_seen (max r.seen q.seen) r ∷ with_seen (max r.seen q.seen) q ∷ []
pair_of v w = []
