-- Definitions. A draw counter and its seats as a contract sees them, and their state between any
-- two steps.
use Rattle.std.specs.Prelude.{◌≡◌, ◌≢◌, ℕ, ◌+◌, ◌<◌, ◌≤◌, List, length, slice_index, All}
use Rattle.std.specs.List.{flat_map}
use mathlib.Core.Option.{some}
use lib.ListN.{get_elem?}
use Rattle.atomic_table.specs.Seated.{TableId}
use Rattle.atomic_table.specs.Table.{State}
use Rattle.lk_workers.specs.Counting.{sum_over, occurrences, IsEachBelow}
use Rattle.lk_workers.specs.declared.draws.DrawView.{DrawView}
use Rattle.lk_workers.specs.invariants.DrawRule.{Drawn}

-- a counter: its identity, and the draws that its first seat had
pub record Counter : Type 0 where
  pub table : TableId
  pub draws : ℕ

-- a seat: its counter, with the draws of that one, the numbers that the seat drew, the last at the
-- end, and the draws that it has left
pub record Drawer : Type 0 where
  pub table : TableId
  pub draws : ℕ
  pub drawn : List ℕ
  pub left : ℕ

-- a seat of this counter
abbrev pub drawer : Counter → List ℕ → ℕ → Drawer
drawer c drawn left = record { table = c.table; draws = c.draws; drawn = drawn; left = left }

-- the seat comes from this counter
abbrev pub IsSeatOf : Counter → Drawer → Type 0
IsSeatOf c s = (s.table ≡ c.table) × (s.draws ≡ c.draws)

-- the number that the next draw answers
abbrev pub word_of : State (Unit {0}) DrawView → ℕ
word_of s = slice_index s.words 0

-- One word, and a view for each seat that `open` and `split` made. A dropped seat keeps its view,
-- and one that was joined into another has drawn nothing
pub record DrawState (draws : ℕ) (s : State (Unit {0}) DrawView) : Type 0 where
  -- the numbers in the lists of all seats are those below the word, each once
  pub numbers : IsEachBelow (word_of s) (flat_map (λ v. v.drawn) s.views)
  -- the draws made and the draws left are all draws
  pub all : word_of s + sum_over (λ v. v.left) s.views ≡ draws
  -- no two seats have one number
  pub apart : (i j : ℕ) (v w : DrawView) (x : ℕ) → i ≢ j → get_elem? s.views i ≡ some v
      → get_elem? s.views j ≡ some w → 1 ≤ occurrences x v.drawn → occurrences x w.drawn ≡ 0
  -- the next draw is greater than each number that a seat has
  pub greater : (i : ℕ) (v : DrawView) → get_elem? s.views i ≡ some v
      → All (λ x. x < word_of s) v.drawn
  -- a seat with all draws has each number below the word
  pub whole : (i : ℕ) (v : DrawView) → get_elem? s.views i ≡ some v
      → length v.drawn + v.left ≡ draws → IsEachBelow (word_of s) v.drawn

-- a state of the counter has this word, and in it a seat has drawn these numbers and has this many
-- draws left
abbrev pub IsEnd : ℕ → ℕ → List ℕ → ℕ → Type 0
IsEnd draws word drawn left =
    (s : State (Unit {0}) DrawView) × DrawState draws s × (word_of s ≡ word)
    × ((id : ℕ) × (v : DrawView) × (get_elem? s.views id ≡ some v) × (v.drawn ≡ drawn)
    × (v.left ≡ left))

abbrev pub EachNumberOnce : Type 0
EachNumberOnce = (draws : ℕ) (s : State (Unit {0}) DrawView) → Drawn draws s → DrawState draws s
