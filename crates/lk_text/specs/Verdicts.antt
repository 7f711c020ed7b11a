-- Definitions. The verdict on a whole text: its lines are read one after another, up to the first
-- that ends it. And the status of the program by it.
use Rattle.std.specs.Prelude.{◌≡◌, ◌≢◌, ◌↔◌, ◌+◌, ◌≤◌, ℕ, List, [], ◌∷◌}
use Rattle.std.specs.Prelude.{length, fold, max}
use Rattle.std.specs.Prelude.{Option, None, Some, IfSome, Bool, true, false}
use Rattle.std.specs.List.{All}
use Rattle.lk_lines.specs.Lines.{lines_of}
use Rattle.lk_trace.specs.Checks.{Checked}
use Rattle.lk_trace.specs.Traces.{event_of, after_text_line}
use Rattle.lk_trace.specs.declared.trace.Event.{Event}
use Rattle.lk_trace.specs.declared.trace.Event.TheVariants.{Differs, Fault, Made}
use Rattle.lk_text.specs.Summaries.{new_summary, summary_with}
use Rattle.lk_text.specs.declared.summary.Summary.{Summary}
use Rattle.lk_text.specs.Accepted.{IsTrace}
use Rattle.lk_text.specs.Fates.{hangs_after, new_fates}
use Rattle.lk_text.specs.declared.report.Ending.{Ending}
use Rattle.lk_text.specs.declared.report.Ending.TheVariants.{Accepted, Refused, Unread}
use Rattle.lk_text.specs.declared.report.Ending.TheVariants.{Faulty, Hangs}
use Rattle.lk_text.specs.declared.report.Report.{Report}

-- 1 if a move or a value is refused or the run hangs, 3 if the file could not be read, 4 if it is
-- no trace
abbrev pub status_of : Ending → ℕ
status_of Accepted = 0
status_of Refused = 1
status_of Unread = 3
status_of Faulty = 4
status_of Hangs = 1

-- the greatest status of so many endings
abbrev pub greatest_status : List Ending → ℕ
greatest_status endings = fold (λ worst ending. max (status_of ending) worst) 0 endings

-- how a text ends, and the line that ends it, from 1; 0 if none does
pub record Verdict : Type 0 where
  pub ending : Ending
  pub line : ℕ

abbrev pub verdict : Ending → ℕ → Verdict
verdict ending line = record { ending = ending; line = line }

-- after the last line: a text without a header is no trace
abbrev pub at_end : ℕ → Option Checked → Verdict
at_end number None = verdict Faulty number
at_end number (Some c) = verdict Accepted 0

-- a difference and a fault end the text, and nothing else does
abbrev pub unless_ended : ℕ → Event → Verdict → Verdict
unless_ended number (Differs line difference) behind = verdict Refused number
unless_ended number (Fault fault) behind = verdict Faulty number
unless_ended number event behind = behind

-- how lines end of which the first has this number, after those that were read
unfoldable pub verdict_from : ℕ → Option Checked → List (List ℕ) → Verdict
verdict_from number reading [] = at_end number reading
verdict_from number reading (line ∷ lines) =
    unless_ended number (event_of reading line)
    (verdict_from (number + 1) (after_text_line reading line) lines)

-- an accepted trace whose run hangs is none of those that are accepted
abbrev pub hanging_verdict : Ending → ℕ → Verdict
hanging_verdict Accepted line = verdict Hangs 0
hanging_verdict ending line = verdict ending line

abbrev pub if_hangs : Bool → Verdict → Verdict
if_hangs false v = v
if_hangs true v = hanging_verdict v.ending v.line

-- whether the run of a text hangs
abbrev pub hangs_in : List (List ℕ) → Bool
hangs_in lines = hangs_after None new_fates lines

-- how a text ends
abbrev pub verdict_of : List ℕ → Verdict
verdict_of text = if_hangs (hangs_in (lines_of text)) (verdict_from 1 None (lines_of text))

abbrev pub verdict_in : Report → Verdict
verdict_in report = verdict report.ending report.line

-- the counts after a line that came to this, and led to this lock
abbrev pub noted_line : Summary → Option Checked → Event → Summary
noted_line counts (Some c) (Made line made) = summary_with counts c.lock line made
noted_line counts reading event = counts

-- a line that ends the text counts nothing, and none after it
abbrev pub unless_over : Event → Summary → Summary → Summary
unless_over (Differs line difference) now later = now
unless_over (Fault fault) now later = now
unless_over event now later = later

-- the counts at the end, when these lines are left
unfoldable pub counts_after : Option Checked → Summary → List (List ℕ) → Summary
counts_after reading counts [] = counts
counts_after reading counts (line ∷ lines) =
    unless_over (event_of reading line) counts
    (counts_after (after_text_line reading line)
    (noted_line counts (after_text_line reading line) (event_of reading line)) lines)

-- the counts of a text
abbrev pub counts_in : List ℕ → Summary
counts_in text = counts_after None new_summary (lines_of text)

-- neither the verdict nor the counts change
abbrev pub SameVerdict : Report → Report → Type 0
SameVerdict old new = (verdict_in new ≡ verdict_in old) × (new.summary ≡ old.summary)

-- the report is the text's, unless the input failed: its ending, its line and its counts, and
-- `Accepted` exactly if the text is an accepted trace whose run does not hang
pub record IsOfText (report : Report) (text : List ℕ) : Type 0 where
  pub verdict_is : report.ending ≢ Unread → verdict_in report ≡ verdict_of text
  pub counts_are : report.ending ≢ Unread → report.summary ≡ counts_in text
  pub accepted : report.ending ≢ Unread
      → (report.ending ≡ Accepted) ↔ (IsTrace (lines_of text) × (hangs_in (lines_of text) ≡ false))

-- the ending of a text that such an input has
abbrev pub EndsOne : {I : Type 0} → (I → Option (List ℕ)) → Ending → Type 0
EndsOne {I} remaining ending =
    (input : I) × IfSome (remaining input) (λ text. ending ≡ (verdict_of text).ending)

-- the ending of such an input, unless that cannot be read
abbrev pub EndsInput : {I : Type 0} → (I → Option (List ℕ)) → Ending → Type 0
EndsInput remaining ending = ending ≢ Unread → EndsOne remaining ending

-- the status is at least the greatest of so many endings of such inputs
pub record IsCovered {I : Type 0} (remaining : I → Option (List ℕ)) (count status : ℕ) : Type 0
  where
    pub endings : List Ending
    pub one_each : length endings ≡ count
    pub each : All (EndsInput remaining) endings
    pub worst : greatest_status endings ≤ status
