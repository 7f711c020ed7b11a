-- Definitions. Whether a run hangs, by its moves and by what the text says of its threads' ends.
use Rattle.std.specs.Prelude.{ℕ, ◌-◌, List, [], ◌∷◌, length, take, drop, codes, nat_eq, nat_lt}
use Rattle.std.specs.Prelude.{Bool, true, false, Option, None, Some, option_map, slice_index_or}
use Rattle.std.specs.Prelude.{replicate, slice_set, if◌then◌else◌, ◌&&◌}
use Rattle.std.specs.List.{starts_with, ends_with, list_all, list_any}
use Rattle.lk_locks.specs.declared.kinds.Outcome.{Outcome}
use Rattle.lk_locks.specs.declared.kinds.Outcome.TheVariants as outcome
use Rattle.lk_locks.specs.declared.kinds.Move.{Move}
use Rattle.lk_locks.specs.declared.kinds.Move.TheVariants as move
use Rattle.lk_locks.specs.declared.kinds.StepKind.TheVariants as step
use Rattle.lk_lines.specs.Vocabulary.{number_of}
use Rattle.lk_trace.specs.Checks.{Checked}
use Rattle.lk_trace.specs.Traces.{event_of, after_text_line}
use Rattle.lk_trace.specs.declared.trace.Event.{Event}
use Rattle.lk_trace.specs.declared.trace.Event.TheVariants as event
use Rattle.lk_text.specs.declared.course.Fate.{Fate}
use Rattle.lk_text.specs.declared.course.Fate.TheVariants.{Moved, Waits, Ended, Hangs}

-- the text before an end of so many bytes, as a thread's number
abbrev pub number_before : ℕ → List ℕ → Option ℕ
number_before size text = number_of 0 63 (take (length text - size) text)

-- a thread's number, and whether it has ended
abbrev pub said_before : List ℕ → Option (ℕ × Bool)
said_before front =
    if ends_with nat_eq front (codes " has")
    then option_map (λ t. (t, true)) (number_before 4 front)
    else if ends_with nat_eq front (codes " has not")
    then option_map (λ t. (t, false)) (number_before 8 front)
    else None

-- the number of a thread and `has ended`, or `has not ended`
abbrev pub said_in : List ℕ → Option (ℕ × Bool)
said_in text =
    if ends_with nat_eq text (codes " ended")
    then said_before (take (length text - 6) text)
    else None

-- which thread a comment of at most 96 bytes says to have ended, or not to have
abbrev pub said_of : List ℕ → Option (ℕ × Bool)
said_of line =
    if nat_lt 96 (length line) then None
    else if starts_with nat_eq line (codes "# thread ") then said_in (drop 9 line) else None

-- no thread has moved, and nothing is said of one
abbrev pub new_fates : List Fate
new_fates = replicate 256 Moved

-- a thread waits after a failed poll, and after the section in which a FIFO writer finds readers
abbrev pub fate_after : Move → Outcome → Fate
fate_after action outcome.Waits = Waits
fate_after (move.Step step.Section) outcome.Moved = Waits
fate_after action outcome = Moved

-- a thread that has not ended hangs if it waits after its last move
abbrev pub fate_open : Fate → Fate
fate_open Waits = Hangs
fate_open Hangs = Hangs
fate_open fate = Moved

abbrev pub fate_said : Bool → Fate → Fate
fate_said true fate = Ended
fate_said false fate = fate_open fate

abbrev pub after_comment : List Fate → Option (ℕ × Bool) → List Fate
after_comment fates None = fates
after_comment fates (Some said) =
    slice_set fates said.0 (fate_said said.1 (slice_index_or fates said.0 Moved))

-- how far the threads are after a line that came to this
abbrev pub after_line : List Fate → Event → List ℕ → List Fate
after_line fates event.Skipped line = after_comment fates (said_of line)
after_line fates (event.Made move made) line =
    slice_set fates move.thread (fate_after move.action made.outcome)
after_line fates event line = fates

abbrev pub is_hung : Fate → Bool
is_hung Hangs = true
is_hung fate = false

abbrev pub is_over : Fate → Bool
is_over Ended = true
is_over fate = is_hung fate

-- each of these threads has ended or hangs, and one hangs
abbrev pub hangs : ℕ → List Fate → Bool
hangs threads fates =
    list_all is_over (take threads fates) && list_any is_hung (take threads fates)

-- whether a run hangs at the end of its text: the threads are those of its lock
abbrev pub hangs_at : Option Checked → List Fate → Bool
hangs_at None fates = false
hangs_at (Some c) fates = hangs (length c.lock.state.phases) fates

-- the same, when these lines are left
unfoldable pub hangs_after : Option Checked → List Fate → List (List ℕ) → Bool
hangs_after reading fates [] = hangs_at reading fates
hangs_after reading fates (line ∷ lines) =
    hangs_after (after_text_line reading line) (after_line fates (event_of reading line) line) lines
