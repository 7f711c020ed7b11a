-- Definitions. A line of a trace, and a line of a log: a move, and what its thread saw. Or where it
-- stops being one, and what could be there.
use Rattle.std.specs.Prelude.{ℕ, List, [], ◌∷◌, Option, Some, None, Bool, true, false, Result, Ok}
use Rattle.std.specs.Prelude.{Err, if◌then◌else◌, nat_lt, codes, length, ok_or, unwrap_or}
use Rattle.std.specs.Option.{option_map_or}
use Rattle.std.specs.Result.{result_ok}
use Rattle.std.specs.Str.{bytes_eq}
use Rattle.std.specs.Borrow.{Bor}
use Rattle.lk_locks.specs.declared.kinds.Move.{Move}
use Rattle.lk_locks.specs.declared.kinds.Move.TheVariants.{Call, Step}
use Rattle.lk_locks.specs.declared.kinds.Outcome.{Outcome}
use Rattle.lk_locks.specs.declared.kinds.StepKind.{StepKind}
use Rattle.lk_locks.specs.declared.kinds.StepKind.TheVariants.{Cas, Section}
use Rattle.lk_lines.specs.Lines.{tokens_of}
use Rattle.lk_lines.specs.Digits.{whole_number}
use Rattle.lk_lines.specs.Vocabulary.{move_named, number_of, outcome_named}
use Rattle.lk_lines.specs.declared.unreadable.Expected.TheVariants.{Thread, Action, End}
use Rattle.lk_trace.specs.declared.due.Due.{Due}
use Rattle.lk_trace.specs.declared.due.Due.TheVariants.{OfSchedule, Count, Place, Of, Owner, Found}
use Rattle.lk_trace.specs.declared.due.Due.TheVariants.{FoundValue, Left, LeftValue}
use Rattle.lk_trace.specs.declared.due.Due.TheVariants.{Result as ResultDue, Outcome as OutcomeDue}
use Rattle.lk_trace.specs.declared.names.WordName.{WordName}
use Rattle.lk_trace.specs.declared.names.WordName.TheVariants.{NextTicket, NowServing, Tail, Next}
use Rattle.lk_trace.specs.declared.names.WordName.TheVariants.{Locked}
use Rattle.lk_trace.specs.declared.line.Seen.{Seen}
use Rattle.lk_trace.specs.declared.line.Seen.TheVariants.{Nothing, OnWord, WithOutcome}
use Rattle.lk_trace.specs.declared.line.TraceLine.{TraceLine}

abbrev pub Words : Type 0
Words = List (List ℕ)

-- the rest of a line, and what could be there
abbrev pub Remaining : Type 0
Remaining = Words × Due

-- a part that was read and what is left after it, or where the line stops
abbrev pub Read : Type 0 → Type 0
Read A = Result (A × Remaining) Remaining

infixl 10 ◌>>=◌
abbrev pub ◌>>=◌ : {A B : Type 0} → Result A Remaining → (A → Result B Remaining)
    → Result B Remaining
(Ok part) >>= next = next part
(Err stop) >>= next = Err stop

-- the next word, if this reads it, and what is due after it
abbrev pub word_in : {A : Type 0} → (List ℕ → Option A) → Due → Remaining → Read A
word_in reads next (word ∷ rest, due) =
    ok_or (reads word) (word ∷ rest, due) >>= λ part. Ok (part, (rest, next))
word_in reads next ([], due) = Err ([], due)

-- a tag and the word after it, if the tag comes next: what is due at that word, and after it
abbrev pub after_tag : {A : Type 0} → List ℕ → (List ℕ → Option A) → Due → Due → Remaining
    → Read (Option A)
after_tag tag reads value next (word ∷ rest, due) =
    if bytes_eq word tag
    then word_in reads next (rest, value) >>= (λ part. Ok (Some part.0, part.1))
    else Ok (None, (word ∷ rest, due))
after_tag tag reads value next ([], due) = Ok (None, ([], due))

-- whose record it is, if that is said: `of J`
abbrev pub owner_of : StepKind → Remaining → Read (Option ℕ)
owner_of kind = after_tag (codes "of") (number_of 0 255) (Owner kind) (Found kind)

-- or else the thread's own
abbrev pub in_record : ℕ → (ℕ → WordName) → Read (Option ℕ) → Read (Option WordName)
in_record thread word read = read >>= λ owner. Ok (Some (word (unwrap_or owner.0 thread)), owner.1)

-- the word that a step was on, or none at the line's end
abbrev pub place_in : ℕ → StepKind → Remaining → Read (Option WordName)
place_in thread kind (name ∷ rest, due) =
    if bytes_eq name (codes "next_ticket") then Ok (Some NextTicket, (rest, Found kind))
    else (if bytes_eq name (codes "now_serving") then Ok (Some NowServing, (rest, Found kind))
    else (if bytes_eq name (codes "tail") then Ok (Some Tail, (rest, Found kind))
    else (if bytes_eq name (codes "next")
    then in_record thread Next (owner_of kind (rest, Of kind))
    else (if bytes_eq name (codes "locked")
    then in_record thread Locked (owner_of kind (rest, Of kind)) else Err (name ∷ rest, due)))))
place_in thread kind ([], due) = Ok (None, ([], due))

abbrev pub result_alone : StepKind → List ℕ → Option Bool
result_alone Cas word =
    if bytes_eq word (codes "done") then Some true
    else (if bytes_eq word (codes "failed") then Some false else None)
result_alone kind word = None

-- nothing may follow
abbrev pub at_end : {A : Type 0} → A → Words → Result A Remaining
at_end part [] = Ok part
at_end part (word ∷ rest) = Err (word ∷ rest, OfSchedule End)

-- whether a compare-and-swap wrote, if that is said, and nothing else
abbrev pub result_of : StepKind → Remaining → Result (Option Bool) Remaining
result_of kind (word ∷ rest, due) =
    ok_or (result_alone kind word) (word ∷ rest, due) >>= λ said. at_end (Some said) rest
result_of kind ([], due) = Ok None

-- the values that a step found and left in its word, and whether it wrote
abbrev pub values_in : StepKind → Remaining → Result (Option ℕ × Option ℕ × Option Bool) Remaining
values_in kind at = do
  found ← after_tag (codes "found") whole_number (FoundValue kind) (Left kind) at
  left ← after_tag (codes "left") whole_number (LeftValue kind) (ResultDue kind) found.1
  wrote ← result_of kind left.1
  Ok (found.0, left.0, wrote)

abbrev pub values_on : StepKind → WordName → Remaining → Result Seen Remaining
values_on kind word at = values_in kind at >>= λ values. Ok (OnWord word values.0 values.1 values.2)

-- the values that a step saw of its word, if some are said
abbrev pub with_place : StepKind → Read (Option WordName) → Result Seen Remaining
with_place kind (Ok (Some word, at)) = values_on kind word at
with_place kind (Ok (None, at)) = Ok Nothing
with_place kind (Err stop) = Err stop

abbrev pub values_of : ℕ → StepKind → Remaining → Result Seen Remaining
values_of thread kind at = with_place kind (place_in thread kind at)

-- the outcome of a section, if that is said, and nothing else
abbrev pub outcome_of : Option ℕ → Remaining → Result Seen Remaining
outcome_of count (word ∷ rest, due) =
    ok_or (outcome_named word) (word ∷ rest, due)
    >>= λ outcome. at_end (WithOutcome count (Some outcome)) rest
outcome_of count ([], due) = Ok (WithOutcome count None)

-- the count of a section, its outcome, or both
abbrev pub section_of : Words → Result Seen Remaining
section_of (first ∷ rest) =
    option_map_or (λ count. outcome_of (Some count) (rest, OutcomeDue)) (whole_number first)
    (outcome_of None (first ∷ rest, Count))
section_of [] = Ok Nothing

-- the outcome that is all that follows
abbrev pub outcome_alone : Words → Option Outcome
outcome_alone (word ∷ []) = outcome_named word
outcome_alone words = None

-- the outcome of a step, or the values that it saw of its word
abbrev pub step_of : ℕ → StepKind → Words → Result Seen Remaining
step_of thread kind words =
    option_map_or (λ outcome. Ok (WithOutcome None (Some outcome))) (outcome_alone words)
    (values_of thread kind (words, Place kind))

-- the part after a move, on this word if the line does not name it
abbrev pub seen_of : ℕ → Option WordName → Move → Words → Result Seen Remaining
seen_of thread None (Call op) words = at_end Nothing words
seen_of thread None (Step Section) words = section_of words
seen_of thread None (Step kind) words = step_of thread kind words
seen_of thread (Some word) (Call op) words = Err (words, OfSchedule End)
seen_of thread (Some word) (Step Section) words = Err (words, OfSchedule End)
seen_of thread (Some word) (Step kind) words = values_on kind word (words, Found kind)

-- a move of this thread
abbrev pub move_with : ℕ → Option WordName → Remaining → Result TraceLine Remaining
move_with thread on (word ∷ rest, due) = do
  action ← ok_or (move_named word) (word ∷ rest, due)
  seen ← seen_of thread on action rest
  Ok (record { thread = thread; action = action; seen = seen })
move_with thread on ([], due) = Err ([], due)

abbrev pub line_of_words : Words → Result TraceLine Remaining
line_of_words words = do
  thread ← word_in (number_of 0 255) (OfSchedule Action) (words, OfSchedule Thread)
  move_with thread.0 None thread.1

-- the move that a line of a trace is
unfoldable pub trace_line_of : List ℕ → Option TraceLine
trace_line_of line = result_ok (line_of_words (tokens_of line))

-- the move that a line of this thread's log is
unfoldable pub log_line_of : ℕ → List ℕ → Option TraceLine
log_line_of thread line = result_ok (move_with thread None (tokens_of line, OfSchedule Action))

-- the same of a line of at most 96 bytes
abbrev pub short_line_of : List ℕ → Option TraceLine
short_line_of line = if nat_lt 96 (length line) then None else trace_line_of line

abbrev pub short_log_line_of : ℕ → List ℕ → Option TraceLine
short_log_line_of thread line = if nat_lt 96 (length line) then None else log_line_of thread line

-- what the program holds of a line is as much of its words
abbrev pub Held : Type 0
Held = Option (Bor (List ℕ)) × Due

abbrev pub words_left : Option (Bor (List ℕ)) → Words
words_left None = []
words_left (Some line) = tokens_of line.now

abbrev pub remaining : Held → Remaining
remaining rest = (words_left rest.0, rest.1)

abbrev pub part_of : {A : Type 0} → Result (A × Held) Held → Read A
part_of (Ok part) = Ok (part.0, remaining part.1)
part_of (Err stop) = Err (remaining stop)

abbrev pub whole_of : {A : Type 0} → Result A Held → Result A Remaining
whole_of (Ok whole) = Ok whole
whole_of (Err stop) = Err (remaining stop)
