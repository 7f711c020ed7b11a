-- Definitions. A trace, line by line: the header, and then the moves, each checked on the header's
-- lock.
use Rattle.std.specs.Prelude.{ℕ, List, Option, Some, None, Result, Ok, Err, length, nat_lt}
use Rattle.std.specs.Prelude.{if◌then◌else◌}
use Rattle.lk_lines.specs.Lines.{is_skipped}
use Rattle.lk_locks.specs.State.{Shape}
use Rattle.lk_lines.specs.Header.{header_of}
use Rattle.lk_lines.specs.Faults.{Fault}
use Rattle.lk_lines.specs.Faults as of_text
use Rattle.lk_lines.specs.declared.faults.ReadFault.{ReadFault}
use Rattle.lk_lines.specs.declared.faults.ReadFault.TheVariants as reading
use Rattle.lk_trace.specs.Lines.{short_line_of}
use Rattle.lk_trace.specs.Checks.{Checked, new_lock, answer_to, after_line}
use Rattle.lk_trace.specs.declared.checker.Made.{Made}
use Rattle.lk_trace.specs.declared.line.TraceLine.{TraceLine}
use Rattle.lk_trace.specs.declared.difference.Difference.{Difference}
use Rattle.lk_trace.specs.declared.trace.Event.{Event}
use Rattle.lk_trace.specs.declared.trace.Event.TheVariants as event
use Rattle.lk_trace.specs.declared.trace.TextFault.{TextFault}
use Rattle.lk_trace.specs.declared.trace.TextFault.TheVariants as faults

-- a schedule's fault, without its line
abbrev pub fault_of : Fault → TextFault
fault_of (of_text.BadThreads line) = faults.BadThreads
fault_of (of_text.WordsTooNarrow line) = faults.WordsTooNarrow
fault_of fault = faults.BadHeader

-- the same of what the program answers
abbrev pub fault_named : ReadFault → TextFault
fault_named (reading.BadThreads line) = faults.BadThreads
fault_named (reading.WordsTooNarrow line) = faults.WordsTooNarrow
fault_named fault = faults.BadHeader

abbrev pub header_read : Result Shape Fault → Result Shape TextFault
header_read (Ok header) = Ok header
header_read (Err fault) = Err (fault_of fault)

-- the header that a line of at most 96 bytes is
abbrev pub read_header_of : List ℕ → Result Shape TextFault
read_header_of line =
    if nat_lt 96 (length line) then Err faults.BadHeader else header_read (header_of 0 line)

abbrev pub header_event : Result Shape TextFault → Event
header_event (Ok header) = event.Began header
header_event (Err fault) = event.Fault fault

abbrev pub answer_event : TraceLine → Result Made Difference → Event
answer_event line (Ok made) = event.Made line made
answer_event line (Err difference) = event.Differs line difference

abbrev pub move_event : Checked → Option TraceLine → Event
move_event c (Some line) = answer_event line (answer_to c line)
move_event c None = event.Fault faults.BadLine

-- the result of a line that is not skipped, of a trace of which some lines were read
abbrev pub unskipped_event : Option Checked → List ℕ → Event
unskipped_event None line = header_event (read_header_of line)
unskipped_event (Some c) line = move_event c (short_line_of line)

abbrev pub event_of : Option Checked → List ℕ → Event
event_of reading line = if is_skipped line then event.Skipped else unskipped_event reading line

abbrev pub after_header : Result Shape TextFault → Option Checked
after_header (Ok header) = Some (new_lock header)
after_header (Err fault) = None

abbrev pub after_move_line : Checked → Option TraceLine → Checked
after_move_line c (Some line) = after_line c line
after_move_line c None = c

abbrev pub after_unskipped : Option Checked → List ℕ → Option Checked
after_unskipped None line = after_header (read_header_of line)
after_unskipped (Some c) line = Some (after_move_line c (short_line_of line))

abbrev pub after_text_line : Option Checked → List ℕ → Option Checked
after_text_line reading line = if is_skipped line then reading else after_unskipped reading line
