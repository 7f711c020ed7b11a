-- Invariants. The rule of the draw counter in counting form, and what follows from its steps.
use Rattle.std.specs.Prelude.{◌≡◌, ℕ, ◌+◌, ◌-◌, ◌^◌, ◌<◌, ◌≤◌, [], ◌∷◌, ◌++◌, length, slice_index}
use Rattle.std.specs.Prelude.{All, List}
use Rattle.atomic_table.specs.Table.{State, Me, Step}
use Rattle.lk_workers.specs.Counting.{sum_over, occurrences, once_below}
use Rattle.lk_workers.specs.declared.draws.DrawView.{DrawView}

-- the view of a seat: the numbers that it drew, the draws that it has left, and those of its
-- counter
abbrev pub draw_view : List ℕ → ℕ → ℕ → DrawView
draw_view drawn left draws = record { drawn = drawn; left = left; draws = draws }

-- a seat as a step sees and leaves it
abbrev pub DrawSees : Type 0
DrawSees = Me (Unit {0}) DrawView

-- each number below the word is drawn once, and no other number is; the draws made and the draws
-- left are all draws
pub record Drawn (draws : ℕ) (s : State (Unit {0}) DrawView) : Type 0 where
  pub one_word : length s.words ≡ 1
  pub once : (x : ℕ)
      → sum_over (λ v. occurrences x v.drawn) s.views ≡ once_below x (slice_index s.words 0)
  pub many : sum_over (λ v. length v.drawn) s.views ≡ slice_index s.words 0
  pub all : slice_index s.words 0 + sum_over (λ v. v.left) s.views ≡ draws
  pub few : draws ≤ 2 ^ 40

-- the word found is appended. It is greater than each number of the list, and there are at least as
-- many numbers below it
abbrev pub DrawFinds : Step (Unit {0}) → DrawSees → ℕ → DrawSees → Type 0
DrawFinds st v found w =
    (w ≡ (draw_view (v.0.drawn ++ found ∷ []) (v.0.left - 1) v.0.draws, v.1))
    × (length v.0.drawn ≤ found) × All (λ x. x < found) v.0.drawn

-- nothing changes, and what is left is few
abbrev pub InspectFinds : Step (Unit {0}) → DrawSees → ℕ → DrawSees → Type 0
InspectFinds st v found w = (w ≡ v) × (v.0.left ≤ 2 ^ 40)
