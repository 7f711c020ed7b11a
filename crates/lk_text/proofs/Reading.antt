-- The kept part of a line means what the line means, and the verdict is read line by line.
use Rattle.std.proofs.Common.{◌≡◌, ℕ, ◌+◌, ◌<◌, List, [], ◌∷◌, length, take, Bool, true, false}
use Rattle.std.proofs.Common.{◌==◌, ◌||◌, None, Some, Result, Err, IfSome, refl}
use Rattle.std.proofs.Common.{sym, ap, ap₂, ◌∙◌, arith, length-take-le, get_or-take, inl, inr}
use Rattle.std.specs.Prelude.{Option, if◌then◌else◌, nat_lt}
use Rattle.std.specs.Io.KnownBytes.{IsAtEnd}
use Rattle.std.proofs.lemmas.List.{take_all}
use Rattle.std.proofs.lemmas.Bool.{cond-true, lt-ltb, cases_lt, eqb-true, false_from_ne_true}
use Rattle.lk_lines.specs.Lines.{lines_of, is_skipped}
use Rattle.lk_text.specs.Lines.{TakesLine, kept_bytes}
use Rattle.lk_text.specs.declared.lines.Line.{Line}
use Rattle.lk_text.specs.declared.summary.Summary.{Summary}
use Rattle.lk_trace.specs.Checks.{Checked}
use Rattle.lk_trace.specs.Lines.{short_line_of}
use Rattle.lk_trace.specs.Traces.{event_of, after_text_line, read_header_of}
use Rattle.lk_trace.specs.Traces.{header_event, move_event}
use Rattle.lk_trace.specs.Traces.{after_header, after_move_line}
use Rattle.lk_locks.specs.State.{Shape}
use Rattle.lk_trace.specs.declared.line.TraceLine.{TraceLine}
use Rattle.lk_trace.specs.declared.trace.Event.{Event}
use Rattle.lk_trace.specs.declared.trace.Event.TheVariants.{Skipped, Began, Made, Differs, Fault}
use Rattle.lk_trace.specs.declared.trace.TextFault.{TextFault}
use Rattle.lk_trace.specs.declared.trace.TextFault.TheVariants.{BadHeader}
use Rattle.lk_text.proofs.Accepting.{of_text}
use Rattle.lk_text.specs.Fates.{after_comment, after_line, hangs_after, hangs_at, said_of}
use Rattle.lk_text.specs.declared.course.Fate.{Fate}
use Rattle.lk_text.specs.Verdicts.{Verdict, IsOfText, at_end, counts_after, if_hangs, noted_line}
use Rattle.lk_text.specs.Verdicts.{unless_ended, unless_over, verdict_from, verdict_in}
use Rattle.lk_text.specs.invariants.{Follows, ReadsText}
use Rattle.lk_text.specs.declared.report.Ending.TheVariants.{Unread}
use Rattle.lk_text.specs.declared.report.Report.{Report}

-- what is kept of a line says what the line says, if no line of more than 96 bytes says anything
same_said : {A : Type 0} (says : List ℕ → A) (nothing : A) (line : List ℕ)
    → ((l : List ℕ) → 96 < length l → says l ≡ nothing) → says (take 97 line) ≡ says line
same_said says nothing line none = elim (cases_lt 97 (length line)) [
  | inl long ↦
      let short : length (take 97 line) ≡ 97 = length-take-le 97 line (omega arith) in
      none (take 97 line) (omega arith) ∙ sym (none line (omega arith))
  | inr short ↦ ap says (take_all 97 line short)
]

same_header : (line : List ℕ) → read_header_of (take 97 line) ≡ read_header_of line
same_header line =
    same_said read_header_of (Err BadHeader) line
    (λ l long. cond-true (nat_lt 96 (length l)) _ _ (lt-ltb 96 (length l) long))

same_move : (line : List ℕ) → short_line_of (take 97 line) ≡ short_line_of line
same_move line =
    same_said short_line_of None line
    (λ l long. cond-true (nat_lt 96 (length l)) _ _ (lt-ltb 96 (length l) long))

same_comment : (line : List ℕ) → said_of (take 97 line) ≡ said_of line
same_comment line =
    same_said said_of None line
    (λ l long. cond-true (nat_lt 96 (length l)) _ _ (lt-ltb 96 (length l) long))

not_zero : (n : ℕ) → 0 < n → (n == 0) ≡ false
not_zero n some = false_from_ne_true (n == 0) (λ is. omega (arith, eqb-true n 0 is))

same_skip : (line : List ℕ) → is_skipped (take 97 line) ≡ is_skipped line
same_skip line = elim (cases_lt 97 (length line)) [
  | inl long ↦
      let short : length (take 97 line) ≡ 97 = length-take-le 97 line (omega arith) in
      ap₂ (λ a b. a || (b == 35))
      (not_zero (length (take 97 line)) (omega arith)
      ∙ sym (not_zero (length line) (omega arith)))
      (get_or-take 97 line 0 0 (omega arith))
  | inr short ↦ ap is_skipped (take_all 97 line short)
]

-- the kept part of a line comes to what the line comes to
kept_event : (reading : Option Checked) (line kept : List ℕ) → kept ≡ take 97 line
    → event_of reading kept ≡ event_of reading line
kept_event None line kept is =
    ap (event_of None) is
    ∙ ap₂ (λ (b : Bool) (h : Result Shape TextFault). if b then Skipped else header_event h)
    (same_skip line) (same_header line)
kept_event (Some c) line kept is =
    ap (event_of (Some c)) is
    ∙ ap₂ (λ (b : Bool) (m : Option TraceLine). if b then Skipped else move_event c m)
    (same_skip line) (same_move line)

kept_after : (reading : Option Checked) (line kept : List ℕ) → kept ≡ take 97 line
    → after_text_line reading kept ≡ after_text_line reading line
kept_after None line kept is =
    ap (after_text_line None) is
    ∙ ap₂ (λ (b : Bool) (h : Result Shape TextFault). if b then None else after_header h)
    (same_skip line) (same_header line)
kept_after (Some c) line kept is =
    ap (after_text_line (Some c)) is
    ∙ ap₂ (λ (b : Bool) (m : Option TraceLine). if b then Some c else Some (after_move_line c m))
    (same_skip line) (same_move line)

kept_line : (fates : List Fate) (event : Event) (line kept : List ℕ) → kept ≡ take 97 line
    → after_line fates event kept ≡ after_line fates event line
kept_line fates Skipped line kept is =
    ap (after_comment fates) (ap said_of is ∙ same_comment line)
kept_line fates (Began header) line kept is = refl
kept_line fates (Made move made) line kept is = refl
kept_line fates (Differs move difference) line kept is = refl
kept_line fates (Fault fault) line kept is = refl

-- whether the run hangs, a line later
later : (reading after : Option Checked) (fates told : List Fate) (lines rest : List (List ℕ))
    (line kept : List ℕ) → lines ≡ line ∷ rest → kept ≡ take 97 line
    → after ≡ after_text_line reading kept → told ≡ after_line fates (event_of reading kept) kept
    → hangs_after reading fates lines ≡ hangs_after after told rest
unfolding hangs_after
later reading after fates told lines rest line kept is same now last =
    ap (hangs_after reading fates) is
    ∙ ap₂ (λ (r : Option Checked) (f : List Fate). hangs_after r f rest)
    (sym (now ∙ kept_after reading line kept same))
    (sym (last ∙ kept_line fates (event_of reading kept) line kept same
    ∙ ap (λ (e : Event). after_line fates e line) (kept_event reading line kept same)))

-- a line and those after it
step : (number : ℕ) (reading after : Option Checked) (lines rest : List (List ℕ))
    (line kept : List ℕ)
    → lines ≡ line ∷ rest → kept ≡ take 97 line → after ≡ after_text_line reading kept
    → verdict_from number reading lines
    ≡ unless_ended number (event_of reading kept) (verdict_from (number + 1) after rest)
unfolding verdict_from
step number reading after lines rest line kept is same now =
    ap (verdict_from number reading) is
    ∙ ap₂ (λ (e : Event) (r : Option Checked). unless_ended number e
    (verdict_from (number + 1) r rest))
    (sym (kept_event reading line kept same)) (sym (now ∙ kept_after reading line kept same))

-- the counts, a line later
later_counts : (reading after : Option Checked) (counts more : Summary) (lines rest : List (List ℕ))
    (line kept : List ℕ) → lines ≡ line ∷ rest → kept ≡ take 97 line
    → after ≡ after_text_line reading kept → more ≡ noted_line counts after (event_of reading kept)
    → counts_after reading counts lines
    ≡ unless_over (event_of reading kept) counts (counts_after after more rest)
unfolding counts_after
later_counts reading after counts more lines rest line kept is same now noted =
    let event = kept_event reading line kept same in
    let next : after ≡ after_text_line reading line = now ∙ kept_after reading line kept same in
    ap (counts_after reading counts) is
    ∙ ap₂ (λ (e : Event) (r : Option Checked). unless_over e counts
    (counts_after r (noted_line counts r e) rest)) (sym event) (sym next)
    ∙ ap (λ (s : Summary). unless_over (event_of reading kept) counts (counts_after after s rest))
    (sym noted)

goes_on : (number : ℕ) (event : Event) (on : Bool) (report : Report) (behind : Verdict)
    → Follows number event on report → on ≡ true → unless_ended number event behind ≡ behind
goes_on number Skipped on report behind follows is = refl
goes_on number (Began header) on report behind follows is = refl
goes_on number (Made line outcome) on report behind follows is = refl
goes_on number (Differs line difference) on report behind follows is = absurd (cc (follows.0, is))
goes_on number (Fault fault) on report behind follows is = absurd (cc (follows.0, is))

counts_on : (number : ℕ) (event : Event) (on : Bool) (report : Report) (now later : Summary)
    → Follows number event on report → on ≡ true → unless_over event now later ≡ later
counts_on number Skipped on report now later follows is = refl
counts_on number (Began header) on report now later follows is = refl
counts_on number (Made line outcome) on report now later follows is = refl
counts_on number (Differs line difference) on report now later follows is =
    absurd (cc (follows.0, is))
counts_on number (Fault fault) on report now later follows is = absurd (cc (follows.0, is))

-- a line that does not end the text
pub line_on : (all old new : Option (List ℕ)) (number : ℕ) (reading after : Option Checked)
    (fates told : List Fate) (counts more : Summary) (line : Line) (bytes : List ℕ) (on : Bool)
    (report : Report) → ReadsText all old number reading fates counts
    → TakesLine old new line → bytes ≡ kept_bytes line
    → Follows number (event_of reading bytes) on report
    → on ≡ true → after ≡ after_text_line reading bytes
    → told ≡ after_line fates (event_of reading bytes) bytes
    → more ≡ noted_line counts after (event_of reading bytes)
    → ReadsText all new (number + 1) after told more
line_on None old new number reading after fates told counts more line bytes on report reads taken
    same follows is now last noted = tt
line_on (Some text) None new number reading after fates told counts more line bytes on report reads
    taken same follows is now last noted = absurd reads
line_on (Some text) (Some rest) None number reading after fates told counts more line bytes on
    report reads taken same follows is now last noted = absurd taken
line_on (Some text) (Some rest) (Some left) number reading after fates told counts more line bytes
    on report reads taken same follows is now last noted = record {
      verdict_is =
          reads.verdict_is
          ∙ ap₂ if_hangs
          (later reading after fates told (lines_of rest) (lines_of left) taken.bytes bytes
          taken.first
          (same ∙ taken.kept_is) now last)
          (step number reading after (lines_of rest) (lines_of left) taken.bytes bytes taken.first
          (same ∙ taken.kept_is) now
          ∙ goes_on number (event_of reading bytes) on report _ follows is);
      counts_are =
          reads.counts_are
          ∙ later_counts reading after counts more (lines_of rest) (lines_of left) taken.bytes bytes
          taken.first (same ∙ taken.kept_is) now noted
          ∙ counts_on number (event_of reading bytes) on report counts _ follows is;
    }

-- a line that ends it: then it does not matter whether the run hangs
ends_all : (h : Bool) (number : ℕ) (event : Event) (on : Bool) (report : Report) (after : Verdict)
    → Follows number event on report → on ≡ false
    → if_hangs h (unless_ended number event after) ≡ verdict_in report
ends_all h number Skipped on report after follows is = absurd (cc (follows, is))
ends_all h number (Began header) on report after follows is = absurd (cc (follows, is))
ends_all h number (Made line made) on report after follows is = absurd (cc (follows, is))
ends_all false number (Differs line difference) on report after follows is = sym follows.1
ends_all true number (Differs line difference) on report after follows is = sym follows.1
ends_all false number (Fault fault) on report after follows is = sym follows.1
ends_all true number (Fault fault) on report after follows is = sym follows.1

counts_end : (number : ℕ) (event : Event) (on : Bool) (report : Report) (reading : Option Checked)
    (counts later : Summary) → Follows number event on report → on ≡ false
    → unless_over event counts later ≡ noted_line counts reading event
counts_end number Skipped on report reading counts later follows is = absurd (cc (follows, is))
counts_end number (Began header) on report reading counts later follows is =
    absurd (cc (follows, is))
counts_end number (Made line made) on report reading counts later follows is =
    absurd (cc (follows, is))
counts_end number (Differs line difference) on report None counts later follows is = refl
counts_end number (Differs line difference) on report (Some c) counts later follows is = refl
counts_end number (Fault fault) on report None counts later follows is = refl
counts_end number (Fault fault) on report (Some c) counts later follows is = refl

pub line_last : (all old new : Option (List ℕ)) (number : ℕ) (reading after : Option Checked)
    (fates : List Fate) (counts : Summary) (line : Line) (bytes : List ℕ) (on : Bool)
    (report : Report) → ReadsText all old number reading fates counts
    → TakesLine old new line → bytes ≡ kept_bytes line
    → Follows number (event_of reading bytes) on report
    → on ≡ false → after ≡ after_text_line reading bytes
    → report.summary ≡ noted_line counts after (event_of reading bytes)
    → IfSome all (IsOfText report)
line_last None old new number reading after fates counts line bytes on report reads taken same
    follows is now noted = tt
line_last (Some text) None new number reading after fates counts line bytes on report reads taken
    same follows is now noted = absurd reads
line_last (Some text) (Some rest) None number reading after fates counts line bytes on report reads
    taken same follows is now noted = absurd taken
line_last (Some text) (Some rest) (Some left) number reading after fates counts line bytes on report
    reads taken same follows is now noted =
    let h = hangs_after reading fates (lines_of rest) in
    of_text report text (λ _. sym (reads.verdict_is
    ∙ ap (if_hangs h)
    (step number reading _ (lines_of rest) (lines_of left) taken.bytes bytes taken.first
    (same ∙ taken.kept_is) refl)
    ∙ ends_all h number (event_of reading bytes) on report _ follows is))
    (λ _. noted ∙ sym (reads.counts_are
    ∙ later_counts reading after counts report.summary (lines_of rest) (lines_of left) taken.bytes
    bytes taken.first (same ∙ taken.kept_is) now noted
    ∙ counts_end number (event_of reading bytes) on report after counts _ follows is))

no_lines : lines_of [] ≡ []
unfolding lines_of
no_lines = refl

none_left : (number : ℕ) (reading : Option Checked)
    → verdict_from number reading [] ≡ at_end number reading
unfolding verdict_from
none_left number reading = refl

no_later : (reading : Option Checked) (fates : List Fate)
    → hangs_after reading fates [] ≡ hangs_at reading fates
unfolding hangs_after
no_later reading fates = refl

no_counts : (reading : Option Checked) (counts : Summary) → counts_after reading counts [] ≡ counts
unfolding counts_after
no_counts reading counts = refl

-- the end of the text
pub reads_end : (all left : Option (List ℕ)) (number : ℕ) (reading : Option Checked)
    (fates : List Fate) (counts : Summary) (report : Report)
    → ReadsText all left number reading fates counts → IsAtEnd left
    → verdict_in report ≡ if_hangs (hangs_at reading fates) (at_end number reading)
    → report.summary ≡ counts → IfSome all (IsOfText report)
reads_end None left number reading fates counts report reads end is same = tt
reads_end (Some text) None number reading fates counts report reads end is same = absurd reads
reads_end (Some text) (Some rest) number reading fates counts report reads end is same =
    let none : lines_of rest ≡ [] = ap lines_of end ∙ no_lines in
    of_text report text (λ _.
    is
    ∙ sym (reads.verdict_is
    ∙ ap₂ if_hangs (ap (hangs_after reading fates) none ∙ no_later reading fates)
    (ap (verdict_from number reading) none ∙ none_left number reading)))
    (λ _.
    same
    ∙ sym (reads.counts_are ∙ ap (counts_after reading counts) none ∙ no_counts reading counts))

-- the report of an input that failed
pub of_unread : (all : Option (List ℕ)) (report : Report) → report.ending ≡ Unread
    → IfSome all (IsOfText report)
of_unread None report unread = tt
of_unread (Some text) report unread =
    of_text report text (λ read. absurd (read unread)) (λ read. absurd (read unread))
