-- Definitions: the bytes that a page finds in the slices that it lent.
use Rattle.std.specs.Prelude.{◌≡◌, ℕ, ◌+◌, ◌*◌, List, [], ◌∷◌, ◌++◌, length, take, drop, Option}
use Rattle.std.specs.Prelude.{MatchOption, None, Some, Result, Ok, Err, if◌then◌else◌, nat_le}
use Rattle.std.specs.List.{flat_map}
use Rattle.lk_locks.specs.State.{start_of}
use Rattle.lk_locks.specs.Steps.{refusal_of}
use Rattle.lk_locks.specs.declared.kinds.Refusal.{Refusal}
use Rattle.lk_lines.specs.Faults.{Fault}
use Rattle.lk_replay.specs.Schedule.{Plan}
use Rattle.lk_replay.specs.Replay.{Replay, replay_from}
use Rattle.lk_replay.specs.declared.schedule.Line.{Line}
use Rattle.lk_page.specs.Layout.{record_bytes, state_bytes, fault_bytes}
use Rattle.lk_page.specs.Told.{Moment, beginning, after_line, after_lines, IsRecord}
use Rattle.lk_page.specs.declared.told.Record.{Record}

-- bytes from a place on, if they fit wholly
abbrev pub with_bytes_at : List ℕ → ℕ → List ℕ → List ℕ
with_bytes_at old at bytes =
    if nat_le (at + length bytes) (length old) then take at old ++ bytes
    ++ drop (at + length bytes) old else old

-- `new` is `old` with the records of these moves up to the first refused one, after `count` others
abbrev pub AreRecords : Moment → List Line → ℕ → List ℕ → List ℕ → Type 0
AreRecords m [] count old new = new ≡ old
AreRecords m (l ∷ ls) count old new =
    MatchOption (refusal_of m.state l.thread l.action)
    ((r : Record) × IsRecord m l r
    × AreRecords (after_line m l) ls (count + 1)
    (with_bytes_at old (count * 56) (record_bytes r)) new)
    (λ _. new ≡ old)

abbrev pub answer_of : Option (ℕ × Refusal) → ℕ
answer_of None = 0
answer_of (Some r) = 1

-- the replay of the first `most` moves of a plan
abbrev pub replay_of_first : Plan → ℕ → Replay
replay_of_first p most = replay_from (start_of p.shape) (take most p.moves)

-- The answer and the written bytes of a text that has this schedule. The entries that the replay
-- leaves say who holds and who waits.
pub record Plays (p : Plan) (most answer : ℕ)
    (records_old records_new state_old state_new : List ℕ) : Type 0 where
  pub answer_is : answer ≡ answer_of (replay_of_first p most).refused
  pub records_are : AreRecords (beginning p) (take most p.moves) 0 records_old records_new
  -- the state after them, at the beginning of what the page lent
  pub state_is : state_new
      ≡ state_bytes (length p.moves) (length (replay_of_first p most).made)
      (replay_of_first p most).refused (after_lines (beginning p) (take most p.moves))
      ++ drop 2304 state_old
  pub history_is : (after_lines (beginning p) (take most p.moves)).entries
      ≡ flat_map (λ m. m.entries) (replay_of_first p most).made

abbrev pub IsTold : Result Plan Fault → ℕ → ℕ → List ℕ → List ℕ → List ℕ → List ℕ → Type 0
IsTold (Ok p) most answer records_old records_new state_old state_new =
    Plays p most answer records_old records_new state_old state_new
IsTold (Err f) most answer records_old records_new state_old state_new =
    (answer ≡ 2) × (records_new ≡ records_old) × (state_new ≡ fault_bytes f ++ drop 2304 state_old)
