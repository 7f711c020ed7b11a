-- Definitions: the replay of a schedule, its moves in order up to the first refused one. The
-- definitions of the locks alone say what a move does.
use Rattle.std.specs.Prelude.{ℕ, List, [], ◌∷◌, map, Option, None, Some}
use Rattle.std.specs.List.{flat_map}
use Rattle.lk_locks.specs.State.{State, start_of}
use Rattle.lk_locks.specs.Steps.{refusal_of, change_of, next_state}
use Rattle.lk_locks.specs.declared.kinds.LockKind.{LockKind}
use Rattle.lk_locks.specs.declared.kinds.Entry.{Entry}
use Rattle.lk_locks.specs.declared.kinds.Refusal.{Refusal}
use Rattle.lk_replay.specs.Schedule.{Plan}
use Rattle.lk_replay.specs.declared.schedule.Line.{Line}
use Rattle.lk_replay.specs.declared.played.Accepted.{Accepted}

-- an accepted move, with the entries that it added
pub record Made : Type 0 where
  pub accepted : Accepted
  pub entries : List Entry

-- the accepted moves, and the refused one with its line
pub record Replay : Type 0 where
  pub made : List Made
  pub refused : Option (ℕ × Refusal)

abbrev pub made_by : State → Line → Made
made_by s l = record {
  accepted = record {
    line = l.number;
    thread = l.thread;
    action = l.action;
    outcome = (change_of s l.thread l.action).outcome;
  };
  entries = (change_of s l.thread l.action).entries;
}

abbrev pub with_move : Made → Replay → Replay
with_move m r = record { made = m ∷ r.made; refused = r.refused }

abbrev pub refused_or : Option Refusal → ℕ → Replay → Replay
refused_or None line rest = rest
refused_or (Some r) line rest = record { made = []; refused = Some (line, r) }

-- the moves of these lines, from a state on
abbrev pub replay_from : State → List Line → Replay
replay_from s [] = record { made = []; refused = None }
replay_from s (l ∷ ls) =
    refused_or (refusal_of s l.thread l.action) l.number
    (with_move (made_by s l) (replay_from (next_state s l.thread l.action) ls))

abbrev pub replay_of : Plan → Replay
replay_of p = replay_from (start_of p.shape) p.moves

-- the view of a replay: the lock and the number of its threads, the accepted moves, their entries,
-- and the refused move
pub record Replayed : Type 0 where
  pub kind : LockKind
  pub threads : ℕ
  pub accepted : List Accepted
  pub entries : List Entry
  pub refused : Option (ℕ × Refusal)

-- the view of the replay of a plan
abbrev pub replayed_of : Plan → Replayed
replayed_of p = record {
  kind = p.shape.kind;
  threads = p.shape.threads;
  accepted = map (λ m. m.accepted) (replay_of p).made;
  entries = flat_map (λ m. m.entries) (replay_of p).made;
  refused = (replay_of p).refused;
}
