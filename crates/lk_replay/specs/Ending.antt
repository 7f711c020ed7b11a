-- Definitions: the ending of a report, by its last line.
use Rattle.std.specs.Prelude.{ℕ, List, [], ◌∷◌, if◌then◌else◌, codes, nat_eq, Option, None, Some}
use Rattle.std.specs.Prelude.{Result, Ok, Err}
use Rattle.std.specs.List.{starts_with}
use Rattle.lk_locks.specs.declared.kinds.Refusal.{Refusal}
use Rattle.lk_lines.specs.Lines.{lines_of}
use Rattle.lk_replay.specs.declared.devices.RunFault.{RunFault}
use Rattle.lk_replay.specs.declared.ending.Ending.{Ending}
use Rattle.lk_replay.specs.declared.ending.Ending.TheVariants.{Accepted, Refused, Faulty}

-- the last of these lines, and an empty one if there is none
abbrev pub last_of : List (List ℕ) → List ℕ
last_of [] = []
last_of (line ∷ []) = line
last_of (line ∷ next ∷ lines) = last_of (next ∷ lines)

abbrev pub ending_of_line : List ℕ → Ending
ending_of_line line =
    if starts_with nat_eq line (codes "end ") then Accepted else
    if starts_with nat_eq line (codes "refused ") then Refused else Faulty

-- the ending of the text of a report
unfoldable pub ending_of : List ℕ → Ending
ending_of report = ending_of_line (last_of (lines_of report))

-- the ending of a replay
abbrev pub ending_by : Option (ℕ × Refusal) → Ending
ending_by None = Accepted
ending_by (Some refused) = Refused

-- the exit status of a run
abbrev pub status_of : Result Ending RunFault → ℕ
status_of (Ok Accepted) = 0
status_of (Ok Refused) = 1
status_of (Ok Faulty) = 1
status_of (Err fault) = 3
