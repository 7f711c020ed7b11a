-- Definitions: the moves with which the threads of a lock go on until all are idle, as a page finds
-- them. The definitions of the locks alone say which moves these are.
use Rattle.std.specs.Prelude.{◌≡◌, ◌≢◌, ℕ, ◌+◌, ◌*◌, ◌≤◌, ◌⊎◌, ◌↔◌, List, ◌++◌, length, map, drop}
use Rattle.std.specs.Prelude.{set}
use Rattle.lk_locks.specs.Progress.{AreFinishing, IsAtRest, IsFinishing, most_moves, state_after}
use Rattle.lk_locks.specs.State.{State}
use Rattle.lk_locks.specs.declared.kinds.Move.{Move}
use Rattle.lk_trace.specs.Codes.{move_number}

-- the number of the finishing move of thread t, or 0, which no such move has, if it has none
abbrev pub IsFinishingNumber : State → ℕ → ℕ → Type 0
IsFinishingNumber s t n =
    ((m : Move) × IsFinishing s t m × (n ≡ move_number m))
    ⊎ ((n ≡ 0) × ((m : Move) → ¬ IsFinishing s t m))

-- the code of a move in a run
abbrev pub code_of : ℕ × Move → ℕ
code_of m = m.0 + 512 * move_number m.1

-- finishing moves, one after another, lead from the state s to `now`. The first places of `new`
-- have their codes, and the others what `old` has there.
pub record AreMade (s now : State) (count : ℕ) (old new : List ℕ) : Type 0 where
  pub moves : List (ℕ × Move)
  pub finishing : AreFinishing s moves
  pub leads : state_after s moves ≡ now
  pub count_is : count ≡ length moves
  pub codes_are : new ≡ map code_of moves ++ drop count old

-- The answer to a page that lets all threads finish: 0 if all are idle then, and else 1.
pub record IsFinished (s : State) (answer : ℕ) (codes_old codes_new number_old number_new : List ℕ)
    : Type 0 where
  pub now : State
  pub count : ℕ
  pub made : AreMade s now count codes_old codes_new
  pub few : count ≤ length s.phases * most_moves s.kind
  pub number_is : number_new ≡ set number_old 0 count
  pub rests : answer ≡ 0 ↔ IsAtRest now
  pub is_full : answer ≢ 0 → (answer ≡ 1) × (count ≡ length codes_old)
