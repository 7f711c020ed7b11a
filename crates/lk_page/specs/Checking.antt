-- Definitions. The check of a trace, up to its first fault: the numbers of the answer, and a record
-- of each move that is made. The traces' definitions alone say what a line comes to.
use Rattle.std.specs.Prelude.{ℕ, ◌+◌, ◌-◌, ◌^◌, ◌==◌, min, nat_lt, List, [], ◌∷◌, Option, Some}
use Rattle.std.specs.Prelude.{None, slice_set, if◌then◌else◌}
use Rattle.std.specs.Option.{option_map_or}
use Rattle.lk_words.specs.declared.operation.Effect.{Effect}
use Rattle.lk_lines.specs.Lines.{lines_of}
use Rattle.lk_locks.specs.declared.kinds.Move.{Move}
use Rattle.lk_trace.specs.Checks.{Checked, next_made}
use Rattle.lk_trace.specs.Codes.{fault_number, move_number, outcome_number}
use Rattle.lk_trace.specs.Traces.{event_of, after_text_line}
use Rattle.lk_trace.specs.declared.checker.Made.{Made as MadeMove}
use Rattle.lk_trace.specs.declared.trace.Event.{Event}
use Rattle.lk_trace.specs.declared.trace.Event.TheVariants.{Began, Made, Differs, Fault}
use Rattle.lk_trace.specs.declared.trace.TextFault.TheVariants.{NoHeader}
use Rattle.lk_page.specs.FaultNumbers.{difference_number}
use Rattle.lk_page.specs.declared.check.LtAnswer.{LtAnswer}
use Rattle.lk_page.specs.declared.check.LtStep.{LtStep}

-- a lock has at most 129 words. No word has the greatest number
abbrev pub word_number : Effect → ℕ
word_number e = if nat_lt e.word 129 then e.word else 2 ^ 32 - 1

-- the record of a move that is made. A move on no word found and left 0
abbrev pub record_of : ℕ → ℕ → Move → MadeMove → LtStep
record_of number thread action made = record {
  line = number;
  found = option_map_or (λ e. e.found) made.effect 0;
  left = option_map_or (λ e. e.left) made.effect 0;
  thread = thread;
  action = move_number action;
  outcome = outcome_number made.outcome;
  word = option_map_or word_number made.effect (2 ^ 32 - 1);
}

-- the record of no step
abbrev pub no_step : LtStep
no_step = record {
  line = 0;
  found = 0;
  left = 0;
  thread = 0;
  action = 0;
  outcome = 0;
  word = 2 ^ 32 - 1;
}

-- the record of the step that a thread makes next, if it makes one
abbrev pub next_record : Option Checked → ℕ → ℕ → LtStep
next_record None number thread = no_step
next_record (Some c) number thread =
    option_map_or (λ next. record_of number thread next.0 next.1)
    (next_made c.lock.state thread) no_step

-- counted up to the greatest number of 64 bits
abbrev pub one_more : ℕ → ℕ
one_more n = min (n + 1) (2 ^ 64 - 1)

abbrev pub counted : LtAnswer → LtAnswer
counted a = record a { line = one_more a.line }

-- what an event adds to the answer: its fault is 0 up to the first one
abbrev pub answer_by : Event → LtAnswer → LtAnswer
answer_by (Began header) a = record a { threads = header.threads }
answer_by (Made l made) a = record a { moves = one_more a.moves }
answer_by (Differs l difference) a = record a { fault = difference_number difference }
answer_by (Fault fault) a = record a { fault = fault_number fault }
answer_by event a = a

-- A move that is made is recorded after those before it, as far as there is room. If a move differs
-- from the lock's, the step that its thread makes next is recorded in its place.
abbrev pub steps_by : Option Checked → Event → LtAnswer → List LtStep → List LtStep
steps_by now (Made l made) a steps =
    slice_set steps a.moves (record_of a.line l.thread l.action made)
steps_by now (Differs l difference) a steps =
    slice_set steps a.moves (next_record now a.line l.thread)
steps_by now event a steps = steps

-- the part read so far, and the report on it
pub record Checking : Type 0 where
  pub reading : Option Checked
  pub answer : LtAnswer
  pub steps : List LtStep

abbrev pub checked_line : Checking → List ℕ → Checking
checked_line c line = record {
  reading = after_text_line c.reading line;
  answer = answer_by (event_of c.reading line) (counted c.answer);
  steps =
      steps_by (after_text_line c.reading line) (event_of c.reading line) (counted c.answer)
      c.steps;
}

-- a text without a header has its fault in the line after its last
abbrev pub end_of : Option Checked → LtAnswer → LtAnswer
end_of (Some lock) a = a
end_of None a = record (counted a) { fault = fault_number NoHeader }

abbrev pub checked_lines : Checking → List (List ℕ) → Checking
checked_lines c [] = record c { answer = end_of c.reading c.answer }
checked_lines c (line ∷ lines) =
    if (checked_line c line).answer.fault == 0
    then checked_lines (checked_line c line) lines
    else checked_line c line

-- of a whole text, on these records
abbrev pub checked_text : LtAnswer → List LtStep → List ℕ → Checking
checked_text answer steps text =
    checked_lines (record { reading = None; answer = answer; steps = steps }) (lines_of text)

abbrev pub nothing : LtAnswer
nothing = record { line = 0; moves = 0; fault = 0; threads = 0 }
