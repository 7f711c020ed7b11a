-- Definitions. Where a line of a trace or of a sketch stops being one, and what could be there.
use Rattle.std.specs.Prelude.{ℕ, ◌+◌, ◌-◌, List, [], ◌∷◌, Option, Some, None, Result, Err, Bool}
use Rattle.std.specs.Prelude.{◌||◌, ◌&&◌, if◌then◌else◌, is_some, length, nat_lt, option_map}
use Rattle.std.specs.Result.{result_err}
use Rattle.lk_lines.specs.Lines.{tokens_of}
use Rattle.lk_trace.specs.Lines.{Remaining, Words, line_of_words}
use Rattle.lk_trace.specs.Open.{doer_named, doer_of, filled_line, filled_line_on, move_after}
use Rattle.lk_trace.specs.declared.due.Due.{Due}
use Rattle.lk_trace.specs.declared.due.Due.TheVariants.{AnyThread, Open, Place}
use Rattle.lk_trace.specs.declared.line.TraceLine.{TraceLine}
use Rattle.lk_trace.specs.declared.names.WordName.{WordName}
use Rattle.lk_trace.specs.declared.names.WordName.TheVariants.{Tail}

-- the bytes of words, and one more for each
abbrev pub width : Words → ℕ
width [] = 0
width (word ∷ words) = length word + 1 + width words

-- the column, from 1, of what is left of a line, and what could be there
abbrev pub place_of : List ℕ → Remaining → ℕ × Due
place_of line stop = ((length line + 2) - width stop.0, stop.1)

-- the place at which a line stops being one of a trace
abbrev pub trace_place_of : List ℕ → Option (ℕ × Due)
trace_place_of line = option_map (place_of line) (result_err (line_of_words (tokens_of line)))

-- a sketch may leave out the name of the word
abbrev pub open_due : Due → Due
open_due (Place kind) = Open kind
open_due due = due

-- a line of a sketch names its word or does not, and stops where the reading that goes further does
abbrev pub later : Remaining → Remaining → Remaining
later named unnamed =
    if nat_lt (width unnamed.0) (width named.0) then unnamed else (named.0, open_due named.1)

abbrev pub both_stop : Result TraceLine Remaining → Result TraceLine Remaining → Option Remaining
both_stop (Err named) (Err unnamed) = Some (later named unnamed)
both_stop named unnamed = None

-- whose move it is, and on which word, is all the same
abbrev pub sketch_stop : Words → Option Remaining
sketch_stop words =
    if is_some (doer_named words)
    then both_stop (move_after 0 None words) (move_after 0 (Some Tail) words)
    else Some (words, AnyThread)

-- the place at which a line stops being one of a sketch
abbrev pub sketch_place_of : List ℕ → Option (ℕ × Due)
sketch_place_of line = option_map (place_of line) (sketch_stop (tokens_of line))

-- whether it is a line of a sketch, filled in with this thread, and with this word if it names none
abbrev pub is_open_line : ℕ → WordName → List ℕ → Bool
is_open_line thread word line =
    is_some (doer_of line)
    && (is_some (filled_line thread line) || is_some (filled_line_on thread word line))
