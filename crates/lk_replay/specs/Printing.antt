-- Invariants: a lock on which moves are played as they are printed.
use Rattle.std.specs.Prelude.{ℕ, ◌+◌, List, [], ◌++◌, Bool, if◌then◌else◌}
use Rattle.lk_locks.specs.State.{Shape, State, start_of}
use Rattle.lk_locks.specs.Steps.{change_of, next_state}
use Rattle.lk_replay.specs.Occupancy.{Occupancy, occupancy_after, occupancy_of, occupancy_text}
use Rattle.lk_replay.specs.Replay.{Replay, made_by, replay_from}
use Rattle.lk_replay.specs.Report.{line_start}
use Rattle.lk_replay.specs.ReportRest.{text_from}
use Rattle.lk_replay.specs.declared.schedule.Line.{Line}

-- the state, who holds and who waits, and the number of moves that were played
pub record Printing : Type 0 where
  pub state : State
  pub occupancy : Occupancy
  pub count : ℕ

-- a new lock
abbrev pub printing_of : Shape → Printing
printing_of shape = record {
  state = start_of shape;
  occupancy = occupancy_of shape.kind [];
  count = 0;
}

-- after an accepted move
abbrev pub printing_after : Printing → Line → Printing
printing_after p l = record {
  state = next_state p.state l.thread l.action;
  occupancy = occupancy_after p.occupancy (change_of p.state l.thread l.action).entries;
  count = p.count + 1;
}

-- the line of an accepted move
abbrev pub line_text : Printing → Line → List ℕ
line_text p l =
    line_start (p.count + 1) (made_by p.state l).accepted
    ++ occupancy_text (printing_after p l).occupancy

-- the lines of these moves, up to the first refused one, and the last line
abbrev pub printed_text : Printing → List Line → List ℕ
printed_text p ls =
    text_from p.occupancy p.count (replay_from p.state ls).made (replay_from p.state ls).refused

-- the text that is left after a line, if it was not the last
abbrev pub text_after : Bool → Printing → List Line → List ℕ
text_after is_last p ls = if is_last then [] else printed_text p ls
