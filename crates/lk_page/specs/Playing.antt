-- Invariants: moves that are read again, and played one after another.
use Rattle.std.specs.Prelude.{◌≡◌, ℕ, ◌+◌, List, [], length, Option}
use Rattle.lk_locks.specs.State.{State}
use Rattle.lk_locks.specs.Play.{Tracked, tracker_of}
use Rattle.lk_locks.specs.Sequential.{Sequential}
use Rattle.lk_locks.specs.invariants.Kept.{IsTracked}
use Rattle.lk_locks.specs.declared.kinds.Entry.{Entry}
use Rattle.lk_locks.specs.declared.kinds.Refusal.{Refusal}
use Rattle.lk_replay.specs.Replay.{replay_from}
use Rattle.lk_replay.specs.declared.schedule.Line.{Line}
use Rattle.lk_page.specs.Told.{Moment, after_lines}
use Rattle.lk_page.specs.Written.{AreRecords}

abbrev pub moment : State → List Entry → Moment
moment s es = record { state = s; entries = es }

-- some history leads to the state
abbrev pub HasHistory : State → Type 0
HasHistory s = (q : Sequential) × IsTracked s q

-- the outcome of the moves `ms` on a lock in state `s`
pub record HavePlayed (s : State) (ms : List Line) (old : List ℕ) (k : Tracked) (count : ℕ)
    (refused : Option (ℕ × Refusal)) (new : List ℕ) : Type 0 where
  pub made : count ≡ length (replay_from s ms).made
  pub stopped : refused ≡ (replay_from s ms).refused
  pub after : k
      ≡ tracker_of (after_lines (moment s []) ms).state (after_lines (moment s []) ms).entries
  pub records : AreRecords (moment s []) ms 0 old new

-- `count` of the moves `ms` were made, and `rest` is left of them
pub record ArePlaying (s : State) (ms : List Line) (old : List ℕ) (k : Tracked) (rest : List Line)
    (count : ℕ) (now : List ℕ) : Type 0 where
  pub entries : List Entry
  pub tracks : k ≡ tracker_of k.state entries
  pub made : count + length (replay_from k.state rest).made ≡ length (replay_from s ms).made
  pub stopped : (replay_from k.state rest).refused ≡ (replay_from s ms).refused
  pub after : after_lines (moment k.state entries) rest ≡ after_lines (moment s []) ms
  pub records : (new : List ℕ) → AreRecords (moment k.state entries) rest count now new
      → AreRecords (moment s []) ms 0 old new
