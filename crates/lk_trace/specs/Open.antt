-- Definitions. A line of a sketch: a line of a trace in which `*` is any thread, and what follows
-- the move may be left out, the name of the word too.
use Rattle.std.specs.Prelude.{ℕ, List, [], ◌∷◌, Option, Some, None, Result, Err}
use Rattle.std.specs.Prelude.{if◌then◌else◌, codes, length, nat_lt, option_map}
use Rattle.std.specs.Result.{result_ok}
use Rattle.std.specs.Str.{bytes_eq}
use Rattle.lk_lines.specs.Lines.{tokens_of}
use Rattle.lk_lines.specs.Vocabulary.{number_of}
use Rattle.lk_trace.specs.Lines.{Remaining, Words, move_with}
use Rattle.lk_trace.specs.declared.due.Due.TheVariants.{AnyThread, OpenMove}
use Rattle.lk_trace.specs.declared.line.TraceLine.{TraceLine}
use Rattle.lk_trace.specs.declared.names.WordName.{WordName}
use Rattle.lk_trace.specs.declared.open.Doer.{Doer}
use Rattle.lk_trace.specs.declared.open.Doer.TheVariants.{Any, One}

-- whose move it is
abbrev pub doer_named : Words → Option Doer
doer_named (word ∷ rest) =
    if bytes_eq word (codes "*") then Some Any else option_map One (number_of 0 255 word)
doer_named [] = None

-- the part after the thread, as a move of this one, on this word if the line does not name it
abbrev pub move_after : ℕ → Option WordName → Words → Result TraceLine Remaining
move_after thread on (first ∷ words) = move_with thread on (words, OpenMove)
move_after thread on [] = Err ([], AnyThread)

abbrev pub as_move_of : ℕ → Option WordName → List ℕ → Option TraceLine
as_move_of thread on line =
    if nat_lt 96 (length line) then None else result_ok (move_after thread on (tokens_of line))

-- whose move the line is
unfoldable pub doer_of : List ℕ → Option Doer
doer_of line = doer_named (tokens_of line)

-- the line of a trace that a line of a sketch is, as a move of this thread
unfoldable pub filled_line : ℕ → List ℕ → Option TraceLine
filled_line thread line = as_move_of thread None line

-- the same if the line does not name its word, which is this one
unfoldable pub filled_line_on : ℕ → WordName → List ℕ → Option TraceLine
filled_line_on thread word line = as_move_of thread (Some word) line
