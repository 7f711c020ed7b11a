-- Invariants: what is left of a report to print, of moves that are played as they are printed.
use Rattle.std.specs.Prelude.{ℕ, ◌+◌, List, [], ◌∷◌, ◌++◌, Option, None, Some, length}
use Rattle.lk_locks.specs.declared.kinds.Refusal.{Refusal}
use Rattle.lk_replay.specs.Ending.{ending_by}
use Rattle.lk_replay.specs.Occupancy.{Occupancy, occupancy_after, occupancy_text}
use Rattle.lk_replay.specs.Replay.{Made, Replay}
use Rattle.lk_replay.specs.Report.{last_line, line_start}
use Rattle.lk_replay.specs.declared.ending.Ending.{Ending}

-- the lines of these moves after `count` others that left this occupancy, and the last line
abbrev pub text_from : Occupancy → ℕ → List Made → Option (ℕ × Refusal) → List ℕ
text_from o count [] refused = last_line count refused
text_from o count (m ∷ ms) refused =
    (line_start (count + 1) m.accepted ++ occupancy_text (occupancy_after o m.entries))
    ++ text_from (occupancy_after o m.entries) (count + 1) ms refused

-- the text that is left, its number of lines, and how the report ends
pub record ReportRest : Type 0 where
  pub text : List ℕ
  pub left : ℕ
  pub ending : Ending

-- the rest of a report that did not end yet, after `count` moves that left this occupancy
abbrev pub rest_of : Option Ending → Occupancy → ℕ → Replay → ReportRest
rest_of None o count rest = record {
  text = text_from o count rest.made rest.refused;
  left = length rest.made + 1;
  ending = ending_by rest.refused;
}
rest_of (Some ending) o count rest = record { text = []; left = 0; ending = ending }
