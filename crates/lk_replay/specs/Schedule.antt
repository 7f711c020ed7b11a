-- Definitions: the schedule that a text has, or else its one fault.
use Rattle.std.specs.Prelude.{◌≡◌, ℕ, ◌+◌, List, [], ◌∷◌, Option, Some, None, Bool, ◌==◌}
use Rattle.std.specs.Prelude.{if◌then◌else◌, length, nat_lt, Result, Ok, Err}
use Rattle.lk_locks.specs.declared.kinds.Move.{Move}
use Rattle.lk_replay.specs.declared.schedule.Line.{Line}
use Rattle.lk_lines.specs.Lines.{Numbered, lines_of, is_skipped, move_of}
use Rattle.lk_locks.specs.State.{Shape}
use Rattle.lk_lines.specs.Header.{header_of}
use Rattle.lk_lines.specs.Faults.{Fault, TooLong, NoHeader, BadLine, TooManyMoves}

-- a line, and then the lines of the rest, unless that has a fault
abbrev pub with_line : Line → Result (List Line) Fault → Result (List Line) Fault
with_line line (Ok lines) = Ok (line ∷ lines)
with_line line (Err fault) = Err fault

-- a move in line `number`, and then the moves of the other lines
abbrev pub moves_after : Option (ℕ × Move) → ℕ → Bool → Result (List Line) Fault
    → Result (List Line) Fault
moves_after None number full others = Err (BadLine number)
moves_after (Some move) number full others =
    if full then Err (TooManyMoves number) else with_line
    (record { number = number; thread = move.0; action = move.1 }) others

-- the moves of the lines from line `number` on, if `taken` came before them
abbrev pub moves_from : ℕ → ℕ → List (List ℕ) → Result (List Line) Fault
moves_from number taken [] = Ok []
moves_from number taken (line ∷ lines) =
    if is_skipped line then moves_from (number + 1) taken lines
    else moves_after (move_of line) number (taken == 65536)
    (moves_from (number + 1) (taken + 1) lines)

-- the number of moves that were read
abbrev pub move_count : Result (List Line) Fault → Result ℕ Fault
move_count (Ok moves) = Ok (length moves)
move_count (Err fault) = Err fault

-- the moves that were read, if there is no fault
abbrev pub moves_in : Result (List Line) Fault → List Line
moves_in (Ok moves) = moves
moves_in (Err fault) = []

-- the moves in these lines, if `taken` came before them
abbrev pub moves_left : Numbered → ℕ → List Line
moves_left lines taken = moves_in (moves_from lines.number taken lines.lines)

-- no line of them has a fault
abbrev pub AreMoves : Numbered → ℕ → Type 0
AreMoves lines taken = moves_from lines.number taken lines.lines ≡ Ok (moves_left lines taken)

-- the lock and the moves of a schedule text
pub record Plan : Type 0 where
  pub shape : Shape
  pub moves : List Line

abbrev pub with_header : Result Shape Fault → Result (List Line) Fault → Result Plan Fault
with_header (Ok shape) (Ok moves) = Ok (record { shape = shape; moves = moves })
with_header (Ok shape) (Err fault) = Err fault
with_header (Err fault) moves = Err fault

-- the lines from line `number` on, if no header came before them
abbrev pub plan_from : ℕ → List (List ℕ) → Result Plan Fault
plan_from number [] = Err (NoHeader number)
plan_from number (line ∷ lines) =
    if is_skipped line then plan_from (number + 1) lines
    else with_header (header_of number line) (moves_from (number + 1) 0 lines)

-- the plan or the fault of a text, which may have 1,048,576 bytes
unfoldable pub plan_of : List ℕ → Result Plan Fault
plan_of text = if nat_lt 1048576 (length text) then Err TooLong else plan_from 1 (lines_of text)
