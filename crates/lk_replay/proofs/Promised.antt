-- A replay is a run of the schedule's lock, and so its history is as promised.
use Rattle.std.proofs.Common.{◌≡◌, ℕ, ◌+◌, ◌<◌, ◌≤◌, ◌^◌, List, [], ◌∷◌, length, map, nat_le}
use Rattle.std.proofs.Common.{nat_lt, ◌&&◌, replicate, Option, None, Some, IfSome, Result, Ok, refl}
use Rattle.std.proofs.Common.{sym, ap, subst, arith, inl, inr, ◌++◌, codes, ◌∙◌, append-nil}
use Rattle.std.proofs.Common.{length-append, is_none, true}
use Rattle.std.specs.Prelude.{IfOk}
use Rattle.std.specs.List.{flat_map}
use Rattle.std.specs.Io.KnownBytes.{Appends, Consumes, IsAtEnd}
use Rattle.std.proofs.lemmas.Bool.{and_parts, cases_Bool, leb-true, ltb-true, cond-true, lt-ltb}
use Rattle.std.proofs.lemmas.Bool.{cases_lt}
use Rattle.std.proofs.lemmas.List.{get_or-replicate, length-replicate}
use Rattle.std.proofs.lemmas.Result.{IfOk-at_ok}
use Rattle.lk_locks.proofs.Runs.{every_run_is_as_promised}
use Rattle.lk_locks.specs.MainTheorem.{IsAsPromised}
use Rattle.lk_locks.specs.State.{State, Shape, start_of}
use Rattle.lk_locks.proofs.Acceptance.{accepts_unless_refused}
use Rattle.lk_locks.specs.Steps.{accepts, entries_after, refusal_of, next_state}
use Rattle.lk_locks.specs.Locks.{word_count}
use Rattle.lk_locks.specs.declared.kinds.Entry.{Entry}
use Rattle.lk_locks.specs.declared.kinds.Move.{Move}
use Rattle.lk_locks.specs.declared.kinds.Refusal.{Refusal}
use Rattle.lk_lines.specs.Faults.{Fault}
use Rattle.lk_locks.specs.declared.kinds.LockKind.{LockKind}
use Rattle.lk_lines.specs.Header.{header_of, header_of_shape, header_of_tokens, with_threads}
use Rattle.lk_lines.specs.Lines.{is_skipped, lines_of, tokens_of}
use Rattle.lk_replay.specs.Replay.{Made, Replay, Replayed, made_by, refused_or, replay_from}
use Rattle.lk_replay.specs.Replay.{replay_of, replayed_of, with_move}
use Rattle.lk_replay.specs.Report.{plan_text, report_text}
use Rattle.lk_lines.specs.Digits.{is_plain_number, value_from}
use Rattle.lk_lines.specs.Vocabulary.{number_of}
use Rattle.lk_replay.specs.Whole.{AppendsReport, IsReportOfText, IsHistoryOf, IsReportOf}
use Rattle.lk_replay.specs.Schedule.{Plan, plan_from, plan_of, with_header}
use Rattle.lk_replay.specs.declared.schedule.Line.{Line}

abbrev pub moves_made : List Made → List (ℕ × Move)
moves_made ms = map (λ a. (a.thread, a.action)) (map (λ m. m.accepted) ms)

abbrev pub added_entries : List Made → List Entry
added_entries ms = flat_map (λ m. m.entries) ms

-- an accepted move, and then the rest
one_run : (s : State) (l : Line) (ls : List Line) (r : Option Refusal)
    → refusal_of s l.thread l.action ≡ r
    → let rest : Replay = replay_from (next_state s l.thread l.action) ls in
    entries_after (next_state s l.thread l.action) (moves_made rest.made) ≡ added_entries rest.made
    → let next : Replay = refused_or r l.number (with_move (made_by s l) rest) in
    entries_after s (moves_made next.made) ≡ added_entries next.made
one_run s l ls None accepted same =
    let accepts_it : accepts s l.thread l.action ≡ true =
    accepts_unless_refused s l.thread l.action
    ∙ ap (λ (r : Option Refusal). is_none r) accepted in
    rw (accepts_it, same) refl
one_run s l ls (Some x) refused same = refl

-- the entries of the accepted moves are those that they leave
run_of : (ls : List Line) (s : State)
    → entries_after s (moves_made (replay_from s ls).made) ≡ added_entries (replay_from s ls).made
run_of [] s = refl
run_of (l ∷ ls) s =
    one_run s l ls (refusal_of s l.thread l.action) refl
    (run_of ls (next_state s l.thread l.action))

pub history_of : (p : Plan) → IsHistoryOf p (replayed_of p).accepted (replayed_of p).entries
history_of p = sym (run_of p.moves (start_of p.shape))

-- so it is of what was played
pub history_as_played : (p : Plan) (r : Replayed) → r ≡ replayed_of p
    → IsHistoryOf p r.accepted r.entries
history_as_played p r is = rw is (history_of p)

-- ---- what the header promises

record Fits (threads bits : ℕ) : Type 0 where
  few : threads ≤ 64
  narrow : threads < 2 ^ bits

abbrev HeaderFits : Result Shape Fault → Type 0
HeaderFits read = IfOk read (λ h. Fits h.threads h.bits)

abbrev PlanFits : Result Plan Fault → Type 0
PlanFits read = IfOk read (λ p. Fits p.shape.threads p.shape.bits)

number_most : (least most : ℕ) (text : List ℕ) → IfSome (number_of least most text) (λ n. n ≤ most)
unfolding number_of
number_most least most text =
    let value = value_from 0 text in
    elim (cases_Bool (is_plain_number text && (nat_le least value && nat_le value most))) [
      | inl h ↦
          let (_, fits) =
          and_parts (is_plain_number text) (nat_le least value && nat_le value most) h in
          rw h (leb-true value most (and_parts (nat_le least value) (nat_le value most) fits).1)
      | inr h ↦ rw h tt
    ]

threads_fit : (number : ℕ) (kind : LockKind) (bits : ℕ) (threads : Option ℕ)
    → IfSome threads (λ n. n ≤ 64) → HeaderFits (with_threads number kind bits threads)
threads_fit number kind bits None few = tt
threads_fit number kind bits (Some n) few = elim (cases_Bool (nat_lt n (2 ^ bits))) [
  | inl low ↦ rw low (record { few = few; narrow = ltb-true _ _ low })
  | inr high ↦ rw high tt
]

shape_fits : (number : ℕ) (s : Option (LockKind × (List ℕ × ℕ)))
    → HeaderFits (header_of_shape number s)
shape_fits number None = tt
shape_fits number (Some (kind, (count, bits))) =
    threads_fit number kind bits _ (number_most 1 64 count)

header_fits : (number : ℕ) (line : List ℕ) → HeaderFits (header_of number line)
unfolding header_of
header_fits number line = shape_fits number (header_of_tokens (tokens_of line))

both_fit : (header : Result Shape Fault) (moves : Result (List Line) Fault) → HeaderFits header
    → PlanFits (with_header header moves)
both_fit (Ok h) (Ok ms) fits = fits
both_fit header moves fits = tt

lines_fit : (number : ℕ) (lines : List (List ℕ)) → PlanFits (plan_from number lines)
lines_fit number [] = tt
lines_fit number (line ∷ lines) = elim (cases_Bool (is_skipped line)) [
  | inl h ↦ rw h (lines_fit (number + 1) lines)
  | inr h ↦ rw h (both_fit (header_of number line) _ (header_fits number line))
]

plan_fits : (bytes : List ℕ) → PlanFits (plan_of bytes)
unfolding plan_of
plan_fits bytes = elim (cases_Bool (nat_lt 1048576 (length bytes))) [
  | inl h ↦ rw h tt
  | inr h ↦ rw h (lines_fit 1 (lines_of bytes))
]

-- ---- from bytes to bytes

pub every_report_is_as_promised : (bytes : List ℕ) → IsReportOfText bytes (report_text bytes)
unfolding report_text
every_report_is_as_promised bytes p is =
    let fits = IfOk-at_ok (λ (x : Plan). Fits x.shape.threads x.shape.bits) is (plan_fits bytes) in
    let n = word_count p.shape.kind p.shape.threads in
    let size = length-replicate {A = ℕ} n 0 in
    record {
      text = ap plan_text is;
      history = history_of p;
      promised = subst (IsAsPromised p.shape.kind p.shape.threads) (sym (history_of p))
          (every_run_is_as_promised p.shape.kind p.shape.bits (replicate n 0) p.shape.threads
          (moves_made (replay_of p).made) fits.few fits.narrow (omega (arith, size))
          (λ i low. get_or-replicate n i 0 0 (omega (arith, size, low))));
    }

-- so it is of a report that was made, and of one that went out
pub report_of_text : (text report : List ℕ) → report ≡ report_text text → IsReportOfText text report
report_of_text text report is =
    λ p plan. subst (IsReportOf p) (sym is) (every_report_is_as_promised text p plan)

pub appends_report : (input old new : Option (List ℕ))
    → IfSome input (λ text. Appends old new (report_text text))
    → IfSome input (AppendsReport old new)
appends_report None old new appended = tt
appends_report (Some text) old new appended = (appended, every_report_is_as_promised text)

-- ---- the report of the bytes that were read is that of the whole input

too_long : (bytes : List ℕ) → 1048576 < length bytes → report_text bytes ≡ codes "fault TooLong\n"
unfolding report_text plan_of
too_long bytes h = ap plan_text (cond-true _ _ _ (lt-ltb _ _ h))

same : (xs text rest : List ℕ) → xs ≡ text ++ rest → length text ≤ 1048577
    → (length text < 1048577 → rest ≡ []) → report_text text ≡ report_text xs
same xs text rest whole small end = elim (cases_lt (length text) 1048577) [
  | inl short ↦ ap report_text (sym (whole ∙ ap (λ l. text ++ l) (end short) ∙ append-nil text))
  | inr full ↦
      too_long text (omega arith)
      ∙ sym (too_long xs (omega (arith, ap length whole, length-append text rest)))
]

pub report_of_input : (a b : Option (List ℕ)) (text given : List ℕ) (P : List ℕ → Type 0)
    → given ≡ text → Consumes a b text → length text ≤ 1048577
    → (length text < 1048577 → IsAtEnd b) → P (report_text given)
    → IfSome a (λ xs. P (report_text xs))
report_of_input None b text given P is taken small end h = tt
report_of_input (Some xs) None text given P is taken small end h = absurd taken
report_of_input (Some xs) (Some ys) text given P is taken small end h =
    subst P (ap report_text is ∙ same xs text ys taken small end) h
