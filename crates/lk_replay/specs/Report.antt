-- Definitions: the report text of a schedule text. Who holds and who waits is read off the entries
-- so far, never off words or phases.
use Rattle.std.specs.Prelude.{ℕ, ◌+◌, List, [], ◌∷◌, ◌++◌, Option, None, Some, Result, Ok, Err}
use Rattle.std.specs.Prelude.{codes, decimal}
use Rattle.std.specs.List.{flat_map}
use Rattle.lk_locks.specs.Holding.{Holding, Free, HeldBy, ReadBy, WrittenBy, holding_of, waiting_of}
use Rattle.lk_locks.specs.declared.kinds.LockKind.{LockKind}
use Rattle.lk_locks.specs.declared.kinds.Entry.{Entry}
use Rattle.lk_locks.specs.declared.kinds.Move.TheVariants.{Step}
use Rattle.lk_locks.specs.declared.kinds.Refusal.{Refusal}
use Rattle.lk_locks.specs.declared.kinds.Refusal.TheVariants.{WrongStep}
use Rattle.lk_locks.specs.Refusals.{name_of}
use Rattle.lk_lines.specs.Faults.{Fault, TooLong, NoHeader, BadHeader, BadThreads, BadLine}
use Rattle.lk_lines.specs.Faults.{TooManyMoves, WordsTooNarrow}
use Rattle.lk_lines.specs.Vocabulary.{move_name, outcome_name}
use Rattle.lk_replay.specs.Schedule.{Plan, plan_of}
use Rattle.lk_replay.specs.Replay.{Made, Replay, replay_of}
use Rattle.lk_replay.specs.declared.played.Accepted.{Accepted}

-- numbers, each after a comma
abbrev pub later_numbers : List ℕ → List ℕ
later_numbers numbers = flat_map (λ n. 44 ∷ decimal n) numbers

-- numbers, with commas between them
abbrev pub numbers_text : List ℕ → List ℕ
numbers_text [] = []
numbers_text (n ∷ ns) = decimal n ++ later_numbers ns

-- H: who holds
abbrev pub holding_text : Holding → List ℕ
holding_text Free = codes "-"
holding_text (HeldBy thread) = decimal thread
holding_text (ReadBy threads) = codes "r" ++ numbers_text threads
holding_text (WrittenBy thread) = codes "w" ++ decimal thread

-- Q: who waits in line
abbrev pub queue_text : List ℕ → List ℕ
queue_text [] = codes "-"
queue_text (n ∷ ns) = numbers_text (n ∷ ns)

-- `H queue Q` and the end of the line
abbrev pub shown_text : Holding → List ℕ → List ℕ
shown_text holding waiting =
    holding_text holding ++ codes " queue " ++ queue_text waiting ++ codes "\n"

-- the text of the holders and the queue after these entries
unfoldable pub state_text : LockKind → List Entry → List ℕ
state_text kind es = shown_text (holding_of kind es) (waiting_of kind es)

-- `K T WORD OUTCOME hold `
unfoldable pub line_start : ℕ → Accepted → List ℕ
line_start count a =
    decimal count ++ codes " " ++ decimal a.thread ++ codes " " ++ move_name a.action ++ codes " "
    ++ outcome_name a.outcome ++ codes " hold "

-- its name, and ` next ` with the thread's next step if another was to be made
unfoldable pub refusal_text : Refusal → List ℕ
refusal_text (WrongStep next) = name_of (WrongStep next) ++ codes " next " ++ move_name (Step next)
refusal_text refusal = name_of refusal

-- `WHAT line L `
abbrev pub at_line : List ℕ → ℕ → List ℕ
at_line what number = what ++ codes " line " ++ decimal number ++ codes " "

-- the last line, after `count` accepted moves: `end K`, or `refused line L NAME`
abbrev pub last_line : ℕ → Option (ℕ × Refusal) → List ℕ
last_line count None = codes "end " ++ decimal count ++ codes "\n"
last_line count (Some refused) =
    at_line (codes "refused") refused.0 ++ refusal_text refused.1 ++ codes "\n"

-- the lines of these moves after `count` others that left the entries `es`, and the last line
abbrev pub lines_text : LockKind → ℕ → List Entry → List Made → Option (ℕ × Refusal) → List ℕ
lines_text kind count es [] refused = last_line count refused
lines_text kind count es (m ∷ ms) refused =
    (line_start (count + 1) m.accepted ++ state_text kind (es ++ m.entries))
    ++ lines_text kind (count + 1) (es ++ m.entries) ms refused

abbrev pub replay_text : LockKind → Replay → List ℕ
replay_text kind r = lines_text kind 0 [] r.made r.refused

-- `fault line L NAME`
abbrev pub fault_line : ℕ → List ℕ → List ℕ
fault_line number name = at_line (codes "fault") number ++ name ++ codes "\n"

abbrev pub fault_text : Fault → List ℕ
fault_text TooLong = codes "fault TooLong\n"
fault_text (NoHeader number) = fault_line number (codes "NoHeader")
fault_text (BadHeader number) = fault_line number (codes "BadHeader")
fault_text (BadThreads number) = fault_line number (codes "BadThreads")
fault_text (BadLine number) = fault_line number (codes "BadLine")
fault_text (TooManyMoves number) = fault_line number (codes "TooManyMoves")
fault_text (WordsTooNarrow number) = fault_line number (codes "WordsTooNarrow")

-- the report of a text that has this schedule or this fault: a fault anywhere is one line alone
abbrev pub plan_text : Result Plan Fault → List ℕ
plan_text (Ok plan) = replay_text plan.shape.kind (replay_of plan)
plan_text (Err fault) = fault_text fault

-- the report of a schedule text
unfoldable pub report_text : List ℕ → List ℕ
report_text bytes = plan_text (plan_of bytes)
