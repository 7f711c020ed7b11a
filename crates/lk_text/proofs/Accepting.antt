-- A text ends accepted exactly if it is an accepted trace.
use Rattle.std.proofs.Common.{◌≡◌, ℕ, ◌+◌, List, [], ◌∷◌, true, false, None, Some, Ok, Err, refl}
use Rattle.std.proofs.Common.{Bool, sym, ap, ap₂, ◌∙◌, inl, inr}
use Rattle.std.specs.Prelude.{Option, Result, ◌≢◌}
use Rattle.std.proofs.lemmas.Bool.{cond-true, cond-false, cases_Bool}
use Rattle.lk_locks.specs.invariants.WellFormed.{WellFormed}
use Rattle.lk_lines.specs.Lines.{is_skipped, lines_of}
use Rattle.lk_locks.specs.State.{Shape}
use Rattle.lk_trace.proofs.Agreeing.{agreed, agrees, new_is_well, stays_well}
use Rattle.lk_trace.specs.Checks.{Checked, answer_unless, lock_with, difference_of, made_of}
use Rattle.lk_trace.specs.Checks.{unless_other}
use Rattle.lk_trace.specs.Lines.{short_line_of}
use Rattle.lk_trace.specs.Traces.{event_of, after_text_line, read_header_of}
use Rattle.lk_trace.specs.Traces.{header_event, move_event, answer_event, after_header}
use Rattle.lk_trace.specs.Traces.{after_move_line}
use Rattle.lk_trace.specs.Checks.{new_lock}
use Rattle.lk_trace.specs.declared.difference.Difference.{Difference}
use Rattle.lk_trace.specs.declared.line.TraceLine.{TraceLine}
use Rattle.lk_trace.specs.declared.trace.Event.{Event}
use Rattle.lk_trace.specs.declared.trace.Event.TheVariants.{Skipped}
use Rattle.lk_trace.specs.declared.trace.TextFault.{TextFault}
use Rattle.lk_text.specs.Accepted.{IsMove, AreMoves, IsHeader, IsTrace}
use Rattle.lk_text.specs.Verdicts.{Verdict, IsOfText, counts_in, unless_ended, verdict}
use Rattle.lk_text.specs.Verdicts.{hanging_verdict, hangs_in, if_hangs, verdict_from, verdict_in}
use Rattle.lk_text.specs.Verdicts.{verdict_of}
use Rattle.lk_text.specs.declared.report.Ending.{Ending}
use Rattle.lk_text.specs.declared.report.Ending.TheVariants.{Accepted, Refused, Unread}
use Rattle.lk_text.specs.declared.report.Ending.TheVariants.{Faulty, Hangs}
use Rattle.lk_text.specs.declared.report.Report.{Report}

-- a line, and those after it
line_read : (n : ℕ) (r after : Option Checked) (e : Event) (line : List ℕ) (lines : List (List ℕ))
    → event_of r line ≡ e → after_text_line r line ≡ after
    → verdict_from n r (line ∷ lines) ≡ unless_ended n e (verdict_from (n + 1) after lines)
unfolding verdict_from
line_read n r after e line lines is now =
    ap₂ (λ (x : Event) (y : Option Checked). unless_ended n x (verdict_from (n + 1) y lines)) is now

skipped_line : (n : ℕ) (r : Option Checked) (line : List ℕ) (lines : List (List ℕ))
    → is_skipped line ≡ true → verdict_from n r (line ∷ lines) ≡ verdict_from (n + 1) r lines
skipped_line n r line lines skip =
    line_read n r r Skipped line lines (cond-true (is_skipped line) _ _ skip)
    (cond-true (is_skipped line) _ _ skip)

header_line : (n : ℕ) (line : List ℕ) (lines : List (List ℕ)) (h : Result Shape TextFault)
    → is_skipped line ≡ false → read_header_of line ≡ h
    → verdict_from n None (line ∷ lines)
    ≡ unless_ended n (header_event h) (verdict_from (n + 1) (after_header h) lines)
header_line n line lines h stays read =
    line_read n None (after_header h) (header_event h) line lines
    (cond-false (is_skipped line) _ _ stays ∙ ap header_event read)
    (cond-false (is_skipped line) _ _ stays ∙ ap after_header read)

move_line : (n : ℕ) (c : Checked) (line : List ℕ) (lines : List (List ℕ)) (m : Option TraceLine)
    → is_skipped line ≡ false → short_line_of line ≡ m
    → verdict_from n (Some c) (line ∷ lines)
    ≡ unless_ended n (move_event c m) (verdict_from (n + 1) (Some (after_move_line c m)) lines)
move_line n c line lines m stays read =
    line_read n (Some c) (Some (after_move_line c m)) (move_event c m) line lines
    (cond-false (is_skipped line) _ _ stays ∙ ap (move_event c) read)
    (cond-false (is_skipped line) _ _ stays
    ∙ ap (λ (m : Option TraceLine). Some (after_move_line c m)) read)

-- how a text ends with a move that differs so, if it does
abbrev if_differs : ℕ → Checked → TraceLine → List (List ℕ) → Option Difference → Verdict
if_differs n c l lines d =
    unless_ended n (answer_event l (answer_unless d (made_of c.lock.state l.thread l.action)))
    (verdict_from (n + 1) (Some (unless_other d (lock_with c l) c)) lines)

made_line : (n : ℕ) (c : Checked) (line : List ℕ) (lines : List (List ℕ)) (l : TraceLine)
    (d : Option Difference)
    → is_skipped line ≡ false → short_line_of line ≡ Some l → difference_of c l ≡ d
    → verdict_from n (Some c) (line ∷ lines) ≡ if_differs n c l lines d
made_line n c line lines l d stays read is =
    move_line n c line lines (Some l) stays read ∙ ap (if_differs n c l lines) is

-- the endings of equal verdicts
ending_of : (a b : Verdict) → a ≡ b → a.ending ≡ b.ending
ending_of a b is = ap (λ (v : Verdict). v.ending) is

never_faulty : (a : Verdict) (n : ℕ) → a ≡ verdict Faulty n → a.ending ≡ Accepted → ⊥
never_faulty a n is accepted =
    let stays : Faulty ≡ Accepted = sym (ending_of a (verdict Faulty n) is) ∙ accepted in
    cc

never_refused : (a : Verdict) (n : ℕ) → a ≡ verdict Refused n → a.ending ≡ Accepted → ⊥
never_refused a n is accepted =
    let stays : Refused ≡ Accepted = sym (ending_of a (verdict Refused n) is) ∙ accepted in
    cc

agreed_move : (n : ℕ) (c : Checked) (line : List ℕ) (lines : List (List ℕ)) (l : TraceLine)
    (d : Option Difference) → WellFormed c.lock.state
    → is_skipped line ≡ false → short_line_of line ≡ Some l
    → difference_of c l ≡ d → (verdict_from n (Some c) (line ∷ lines)).ending ≡ Accepted
    → ((next : Checked) → WellFormed next.lock.state
    → (verdict_from (n + 1) (Some next) lines).ending ≡ Accepted → AreMoves next lines)
    → IsMove c line (λ next. AreMoves next lines)
agreed_move n c line lines l None well stays read none accepted rest =
    let agree = agrees c l well none in
    record {
      kept = stays;
      move = l;
      read = read;
      agrees = agree;
      behind =
          rest (lock_with c l) (stays_well c l well agree.accepted)
          (sym (ending_of _ _ (made_line n c line lines l None stays read none)) ∙ accepted);
    }
agreed_move n c line lines l (Some difference) well stays read some accepted rest =
    absurd (never_refused _ n (made_line n c line lines l (Some difference) stays read some)
    accepted)

a_move : (n : ℕ) (c : Checked) (line : List ℕ) (lines : List (List ℕ)) (m : Option TraceLine)
    → WellFormed c.lock.state → is_skipped line ≡ false → short_line_of line ≡ m
    → (verdict_from n (Some c) (line ∷ lines)).ending ≡ Accepted
    → ((next : Checked) → WellFormed next.lock.state
    → (verdict_from (n + 1) (Some next) lines).ending ≡ Accepted → AreMoves next lines)
    → IsMove c line (λ next. AreMoves next lines)
a_move n c line lines None well stays read accepted rest =
    absurd (never_faulty _ n (move_line n c line lines None stays read) accepted)
a_move n c line lines (Some l) well stays read accepted rest =
    agreed_move n c line lines l (difference_of c l) well stays read refl accepted rest

-- lines that end accepted are accepted moves
moves_are : (n : ℕ) (c : Checked) (lines : List (List ℕ)) → WellFormed c.lock.state
    → (verdict_from n (Some c) lines).ending ≡ Accepted → AreMoves c lines
moves_are n c [] well accepted = tt
moves_are n c (line ∷ lines) well accepted = elim (cases_Bool (is_skipped line)) [
  | inl skip ↦ inl (
    skip,
    moves_are (n + 1) c lines well
        (sym (ending_of _ _ (skipped_line n (Some c) line lines skip)) ∙ accepted),
  )
  | inr stays ↦ inr (a_move n c line lines (short_line_of line) well stays refl accepted
      (λ next well. moves_are (n + 1) next lines well))
]

no_more : (n : ℕ) (c : Checked) → (verdict_from n (Some c) []).ending ≡ Accepted
unfolding verdict_from
no_more n c = refl

moves_end : (n : ℕ) (c : Checked) (lines : List (List ℕ)) → WellFormed c.lock.state
    → AreMoves c lines
    → (verdict_from n (Some c) lines).ending ≡ Accepted
moves_end n c [] well moves = no_more n c
moves_end n c (line ∷ lines) well (inl moves) =
    ending_of _ _ (skipped_line n (Some c) line lines moves.0)
    ∙ moves_end (n + 1) c lines well moves.1
moves_end n c (line ∷ lines) well (inr moves) =
    ending_of _ _
    (made_line n c line lines moves.move None moves.kept moves.read
    (agreed c moves.move well moves.agrees))
    ∙ moves_end (n + 1) (lock_with c moves.move) lines
    (stays_well c moves.move well moves.agrees.accepted) moves.behind

a_header : (n : ℕ) (line : List ℕ) (lines : List (List ℕ)) (h : Result Shape TextFault)
    → is_skipped line ≡ false → read_header_of line ≡ h
    → (verdict_from n None (line ∷ lines)).ending ≡ Accepted → IsHeader line (λ c. AreMoves c lines)
a_header n line lines (Ok header) stays read accepted = record {
  kept = stays;
  header = header;
  read = read;
  behind =
      moves_are (n + 1) (new_lock header) lines
      (new_is_well header)
      (sym (ending_of _ _ (header_line n line lines (Ok header) stays read)) ∙ accepted);
}
a_header n line lines (Err fault) stays read accepted =
    absurd (never_faulty _ n (header_line n line lines (Err fault) stays read) accepted)

no_header : (n : ℕ) → verdict_from n None [] ≡ verdict Faulty n
unfolding verdict_from
no_header n = refl

trace_is : (n : ℕ) (lines : List (List ℕ)) → (verdict_from n None lines).ending ≡ Accepted
    → IsTrace lines
trace_is n [] accepted = never_faulty _ n (no_header n) accepted
trace_is n (line ∷ lines) accepted = elim (cases_Bool (is_skipped line)) [
  | inl skip ↦ inl (
    skip,
    trace_is (n + 1) lines (sym (ending_of _ _ (skipped_line n None line lines skip)) ∙ accepted),
  )
  | inr stays ↦ inr (a_header n line lines (read_header_of line) stays refl accepted)
]

trace_ends : (n : ℕ) (lines : List (List ℕ)) → IsTrace lines
    → (verdict_from n None lines).ending ≡ Accepted
trace_ends n [] trace = absurd trace
trace_ends n (line ∷ lines) (inl trace) =
    ending_of _ _ (skipped_line n None line lines trace.0) ∙ trace_ends (n + 1) lines trace.1
trace_ends n (line ∷ lines) (inr trace) =
    ending_of _ _ (header_line n line lines (Ok trace.header) trace.kept trace.read)
    ∙ moves_end (n + 1) (new_lock trace.header) lines
    (new_is_well trace.header) trace.behind

-- a run that hangs is not accepted
not_accepted : (e : Ending) (line : ℕ) → (hanging_verdict e line).ending ≡ Accepted → ⊥
not_accepted Accepted line is = let no : Hangs ≡ Accepted = is in cc
not_accepted Refused line is = let no : Refused ≡ Accepted = is in cc
not_accepted Unread line is = let no : Unread ≡ Accepted = is in cc
not_accepted Faulty line is = let no : Faulty ≡ Accepted = is in cc
not_accepted Hangs line is = let no : Hangs ≡ Accepted = is in cc

goes_well : (h : Bool) (v : Verdict) → (if_hangs h v).ending ≡ Accepted
    → (v.ending ≡ Accepted) × (h ≡ false)
goes_well false v is = (is, refl)
goes_well true v is = absurd (not_accepted v.ending v.line is)

ends_well : (h : Bool) (v : Verdict) → v.ending ≡ Accepted → h ≡ false
    → (if_hangs h v).ending ≡ Accepted
ends_well false v is none = is
ends_well true v is none = let no : true ≡ false = none in cc

-- a report with the text's verdict is the text's
pub of_text : (report : Report) (text : List ℕ)
    → (report.ending ≢ Unread → verdict_in report ≡ verdict_of text)
    → (report.ending ≢ Unread → report.summary ≡ counts_in text) → IsOfText report text
of_text report text is counts = record {
  verdict_is = is;
  counts_are = counts;
  accepted = λ read.
      let lines = lines_of text in
      let h = hangs_in lines in
      let v = verdict_from 1 None lines in
      let same : report.ending ≡ (if_hangs h v).ending =
      ending_of (verdict_in report) (verdict_of text) (is read) in (
        λ accepted.
            let well = goes_well h v (sym same ∙ accepted) in
            (trace_is 1 lines well.0, well.1),
        λ trace. same ∙ ends_well h v (trace_ends 1 lines trace.0) trace.1,
      );
}
