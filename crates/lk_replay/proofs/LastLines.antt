-- The ending of a report, by its last line.
use Rattle.std.proofs.Common.{◌≡◌, ℕ, zero, suc, ◌+◌, ◌/◌, ◌%◌, ◌<◌, List, [], ◌∷◌, ◌++◌, length}
use Rattle.std.proofs.Common.{true, false, refl, sym, ap, ◌∙◌, arith, inl, inr, codes, decimal}
use Rattle.std.proofs.Common.{◌==◌, append_assoc, length-append, Option, None, Some, Result, Ok}
use Rattle.std.proofs.Common.{Err, ◌≢◌, ◌⊎◌, ◌-◌, ◌≤◌, get_or, take, drop, subst}
use Rattle.std.proofs.Common.{take-append-drop, length-drop, Bor, MatchOption}
use Rattle.std.specs.Option.{unwrap_or}
use Rattle.std.specs.Fmt.{digit_glyph, digits, digits_onto}
use Rattle.std.specs.List.{join_with_byte, slice_split}
use Rattle.std.proofs.lemmas.List.Splits.{join_with_byte-slice_split}
use Rattle.std.proofs.lemmas.List.{drop_more, get_or-drop, take_rest}
use Rattle.std.proofs.lemmas.Bool.{cases_Bool, lt-ltb, ne_eqb}
use Rattle.lk_locks.specs.Holding.{holding_of, waiting_of}
use Rattle.lk_locks.specs.declared.kinds.Entry.{Entry}
use Rattle.lk_locks.specs.declared.kinds.LockKind.{LockKind}
use Rattle.lk_locks.specs.declared.kinds.Refusal.{Refusal}
use Rattle.lk_locks.specs.declared.kinds.Refusal.TheVariants.{WrongStep}
use Rattle.lk_locks.specs.declared.kinds.StepKind.TheVariants.{Read}
use Rattle.lk_lines.proofs.Cuts.{before_pieces, both_lines, cut_nowhere, has_piece, is_line}
use Rattle.lk_lines.proofs.Cuts.{one_piece, split_append}
use Rattle.lk_replay.specs.Ending.{ending_by, ending_of, ending_of_line, last_of}
use Rattle.lk_lines.specs.Faults.{Fault, TooLong, NoHeader, BadHeader, BadThreads, BadLine}
use Rattle.lk_lines.specs.Faults.{TooManyMoves, WordsTooNarrow}
use Rattle.lk_lines.specs.Lines.{is_line_feed, lines_of, without_empty_end}
use Rattle.lk_lines.specs.Reads.{IsOfText, Fails}
use Rattle.lk_replay.specs.Replay.{Made, replay_of}
use Rattle.lk_replay.specs.Report.{at_line, fault_text, holding_text, last_line, line_start}
use Rattle.lk_replay.specs.Report.{lines_text, plan_text, queue_text, refusal_text, replay_text}
use Rattle.lk_replay.specs.Report.{report_text, state_text}
use Rattle.lk_replay.specs.Schedule.{Plan, plan_of}
use Rattle.lk_replay.specs.declared.ending.Ending.{Ending}
use Rattle.lk_replay.specs.declared.ending.Ending.TheVariants.{Faulty}
use Rattle.lk_lines.specs.declared.faults.ReadFault.{ReadFault}
use Rattle.lk_lines.specs.declared.faults.ReadFault.TheVariants.{OutOfMemory}

-- ---- a text that is cut

some_lines : (pieces others : List (List ℕ)) → 0 < length others
    → 0 < length (without_empty_end others) → 0 < length (without_empty_end (pieces ++ others))
some_lines [] others some lines = lines
some_lines (p ∷ ps) others some lines =
    rw (before_pieces p (ps ++ others) (omega (arith, length-append ps others))) (omega arith)

last_of_rest : (p : List ℕ) (ps : List (List ℕ)) → 0 < length ps → last_of (p ∷ ps) ≡ last_of ps
last_of_rest p [] some = absurd (omega arith)
last_of_rest p (q ∷ ps) some = refl

last_of_others : (pieces others : List (List ℕ)) → 0 < length others
    → 0 < length (without_empty_end others) → last_of (without_empty_end (pieces ++ others))
    ≡ last_of (without_empty_end others)
last_of_others [] others some lines = refl
last_of_others (p ∷ ps) others some lines =
    ap last_of (before_pieces p (ps ++ others) (omega (arith, length-append ps others)))
    ∙ last_of_rest p (without_empty_end (ps ++ others)) (some_lines ps others some lines)
    ∙ last_of_others ps others some lines

some_piece : (text : List ℕ) (pieces : List (List ℕ)) → 0 < length text
    → slice_split is_line_feed text ≡ pieces → 0 < length (without_empty_end pieces)
some_piece text [] some cut = absurd (omega (arith, has_piece is_line_feed text, ap length cut))
some_piece text (p ∷ q ∷ ps) some cut = omega arith
some_piece text ([] ∷ []) some cut =
    absurd (omega (
      arith,
      ap length (sym (join_with_byte-slice_split 10 text)
          ∙ ap (join_with_byte 10) cut),
    ))
some_piece text ((b ∷ bs) ∷ []) some cut = omega arith

-- a line before a text changes not the last line
last_after_line : (line text : List ℕ) → 0 < length text
    → last_of (lines_of (line ++ 10 ∷ text)) ≡ last_of (lines_of text)
unfolding lines_of
last_after_line line text some =
    rw (split_append is_line_feed line 10 text refl)
    (last_of_others (slice_split is_line_feed line)
    (slice_split is_line_feed text) (has_piece is_line_feed text)
    (some_piece text (slice_split is_line_feed text) some refl))

-- nor how the text ends
ending_after_line : (line text : List ℕ) → 0 < length text → ending_of ((line ++ 10 ∷ []) ++ text)
    ≡ ending_of text
unfolding ending_of
ending_after_line line text some =
    rw (append_assoc line (10 ∷ []) text) (ap ending_of_line (last_after_line line text some))

-- ---- a line that has no line feed in it

-- the text of one line
last_of_one : (line : List ℕ) → slice_split is_line_feed line ≡ line ∷ []
    → last_of (lines_of (line ++ 10 ∷ [])) ≡ line
unfolding lines_of
last_of_one line whole =
    ap (λ ps. last_of (without_empty_end ps))
    (split_append is_line_feed line 10 [] refl ∙ ap (λ ps. ps ++ [] ∷ []) whole)

ends_by : (line : List ℕ) → is_line line ≡ true
    → ending_of (line ++ 10 ∷ []) ≡ ending_of_line line
unfolding ending_of
ends_by line is = ap ending_of_line (last_of_one line (one_piece line is))

-- the text of one line with no line feed at its end
last_of_open : (line : List ℕ) → slice_split is_line_feed line ≡ line ∷ []
    → last_of (lines_of line) ≡ line
unfolding lines_of
last_of_open [] whole = refl
last_of_open (b ∷ bs) whole = ap (λ ps. last_of (without_empty_end ps)) whole

digit_is : (n : ℕ) (rest : List ℕ) → is_line rest ≡ true
    → is_line (digit_glyph false (n % 10) ∷ rest) ≡ true
digit_is n rest is =
    rw (lt-ltb (n % 10) 10 (omega arith), ne_eqb (48 + n % 10) 10 (λ e. omega (arith, e))) is

digits_are : (fuel n : ℕ) (rest : List ℕ) → is_line rest ≡ true
    → is_line (digits_onto fuel 10 false n rest) ≡ true
digits_are zero n rest is = is
digits_are (suc fuel) n rest is = elim (cases_Bool (n / 10 == 0)) [
  | inl last ↦ rw last (digit_is n rest is)
  | inr more ↦
      rw more
      (digits_are fuel (n / 10) (digit_glyph false (n % 10) ∷ rest) (digit_is n rest is))
]

number_is : (n : ℕ) → is_line (decimal n) ≡ true
unfolding digits
number_is n = digits_are 64 n [] refl

-- ---- the last line of a text, found from its end

-- the text, without the line feed at its end if there is one
abbrev pub IsBodyOf : List ℕ → List ℕ → Type 0
IsBodyOf text body = (text ≡ body ++ 10 ∷ [])
    ⊎ ((text ≡ body) × ((front : List ℕ) → body ≢ front ++ 10 ∷ []))

pub body_is : (text body : Bor (List ℕ)) (cut : Option (Bor (List ℕ))) → body ≡ unwrap_or cut text
    → MatchOption cut ((front : List ℕ) → text.now ≢ front ++ 10 ∷ [])
    (λ front. text.now ≡ front.now ++ 10 ∷ []) → IsBodyOf text.now body.now
body_is text body (Some front) is closed = rw is (inl closed)
body_is text body None is bare = rw is (inr (refl, bare))

pub body_alone : (text body : List ℕ) → IsBodyOf text body
    → ((k : ℕ) → k < length body → get_or body k 0 ≢ 10) → body ≡ last_of (lines_of text)
body_alone text body (inl closed) none =
    rw closed (sym (last_of_one body (cut_nowhere 10 body none)))
body_alone text body (inr bare) none =
    rw bare.0 (sym (last_of_open body (cut_nowhere 10 body none)))

after_cut : (text xs ys : List ℕ) → IsBodyOf text (xs ++ 10 ∷ ys)
    → slice_split is_line_feed ys ≡ ys ∷ [] → last_of (lines_of text) ≡ ys
after_cut text xs ys (inl closed) whole =
    rw (closed, append_assoc xs (10 ∷ ys) (10 ∷ []))
    (last_after_line xs (ys ++ 10 ∷ []) (omega (arith, length-append ys (10 ∷ [])))
    ∙ last_of_one ys whole)
after_cut text xs [] (inr bare) whole = absurd (bare.1 xs refl)
after_cut text xs (y ∷ ys) (inr bare) whole =
    rw bare.0 (last_after_line xs (y ∷ ys) (omega arith) ∙ last_of_open (y ∷ ys) whole)

pub body_after : (text body : List ℕ) (at : ℕ) → IsBodyOf text body → at < length body
    → get_or body at 0 ≡ 10 → ((k : ℕ) → at + 1 ≤ k → k < length body → get_or body k 0 ≢ 10)
    → take (length body - (at + 1)) (drop (at + 1) body) ≡ last_of (lines_of text)
body_after text body at is within here none =
    let rest : List ℕ = drop (at + 1) body in
    let parts : body ≡ take at body ++ 10 ∷ rest =
    sym (take-append-drop at body)
    ∙ ap (λ (l : List ℕ). take at body ++ l)
    (drop_more body at 0 within ∙ ap (λ b. b ∷ rest) here) in
    let whole : slice_split is_line_feed rest ≡ rest ∷ [] =
    cut_nowhere 10 rest (λ k low e. none (at + 1 + k) (omega arith)
    (omega (arith, low, length-drop (at + 1) body)) (sym (get_or-drop (at + 1) body k 0) ∙ e)) in
    take_rest body (at + 1)
    ∙ sym (after_cut text (take at body) rest (subst (IsBodyOf text) parts is) whole)

-- ---- the last line

reason_is : (r : Refusal) → is_line (refusal_text r) ≡ true
unfolding refusal_text
reason_is (WrongStep Read) = refl
reason_is r = refl

at_line_is : (what : List ℕ) (number : ℕ) → is_line what ≡ true
    → is_line (at_line what number) ≡ true
at_line_is what number is =
    both_lines ((what ++ codes " line ") ++ decimal number) (codes " ")
    (both_lines (what ++ codes " line ") (decimal number) (both_lines what _ is refl)
    (number_is number)) refl

-- the text of `WHAT line L ` and more
marked_ending : (what rest : List ℕ) (number : ℕ) → is_line what ≡ true → is_line rest ≡ true
    → ending_of ((at_line what number ++ rest) ++ codes "\n")
    ≡ ending_of_line (at_line what number ++ rest)
marked_ending what rest number is clear =
    ends_by (at_line what number ++ rest)
    (both_lines (at_line what number) rest (at_line_is what number is) clear)

last_ending : (count : ℕ) (refused : Option (ℕ × Refusal))
    → ending_of (last_line count refused) ≡ ending_by refused
last_ending count None =
    ends_by (codes "end " ++ decimal count)
    (both_lines (codes "end ") (decimal count) refl (number_is count))
last_ending count (Some (number, reason)) =
    marked_ending (codes "refused") (refusal_text reason) number refl (reason_is reason)

last_some : (count : ℕ) (refused : Option (ℕ × Refusal)) → 0 < length (last_line count refused)
last_some count None = omega arith
last_some count (Some refused) = omega arith

lines_some : (kind : LockKind) (count : ℕ) (es : List Entry) (ms : List Made)
    (refused : Option (ℕ × Refusal)) → 0 < length (lines_text kind count es ms refused)
lines_some kind count es [] refused = last_some count refused
lines_some kind count es (m ∷ ms) refused =
    omega (
      arith,
      length-append (line_start (count + 1) m.accepted ++ state_text kind (es ++ m.entries))
          (lines_text kind (count + 1) (es ++ m.entries) ms refused),
      lines_some kind (count + 1) (es ++ m.entries) ms refused,
    )

lines_ending : (kind : LockKind) (count : ℕ) (es : List Entry) (ms : List Made)
    (refused : Option (ℕ × Refusal))
    → ending_of (lines_text kind count es ms refused) ≡ ending_by refused
unfolding state_text
lines_ending kind count es [] refused = last_ending count refused
lines_ending kind count es (m ∷ ms) refused =
    let now : List Entry = es ++ m.entries in
    let shown : List ℕ =
    (holding_text (holding_of kind now) ++ codes " queue ") ++ queue_text (waiting_of kind now) in
    let start : List ℕ = line_start (count + 1) m.accepted in
    let rest : List ℕ = lines_text kind (count + 1) now ms refused in
    ap (λ (line : List ℕ). ending_of (line ++ rest)) (sym (append_assoc start shown (codes "\n")))
    ∙ ending_after_line (start ++ shown) rest (lines_some kind (count + 1) now ms refused)
    ∙ lines_ending kind (count + 1) now ms refused

-- ---- the ending of a report

abbrev pub plan_ending : Result Plan Fault → Ending
plan_ending (Ok plan) = ending_by (replay_of plan).refused
plan_ending (Err fault) = Faulty

fault_ending : (fault : Fault) → ending_of (fault_text fault) ≡ Faulty
fault_ending TooLong = ends_by (codes "fault TooLong") refl
fault_ending (NoHeader n) = marked_ending (codes "fault") (codes "NoHeader") n refl refl
fault_ending (BadHeader n) = marked_ending (codes "fault") (codes "BadHeader") n refl refl
fault_ending (BadThreads n) = marked_ending (codes "fault") (codes "BadThreads") n refl refl
fault_ending (BadLine n) = marked_ending (codes "fault") (codes "BadLine") n refl refl
fault_ending (TooManyMoves n) = marked_ending (codes "fault") (codes "TooManyMoves") n refl refl
fault_ending (WordsTooNarrow n) = marked_ending (codes "fault") (codes "WordsTooNarrow") n refl refl

of_plan : (read : Result Plan Fault) → ending_of (plan_text read) ≡ plan_ending read
of_plan (Ok plan) = lines_ending plan.shape.kind 0 [] (replay_of plan).made (replay_of plan).refused
of_plan (Err fault) = fault_ending fault

report_ending : (text : List ℕ) → ending_of (report_text text) ≡ plan_ending (plan_of text)
unfolding report_text
report_ending text = of_plan (plan_of text)

fault_ends : (fault : ReadFault) (read : Result Plan Fault) → IsOfText fault → Fails fault read
    → plan_ending read ≡ Faulty
fault_ends OutOfMemory read text fails = absurd text
fault_ends fault read text fails = ap plan_ending fails

pub ends_faulty : (fault : ReadFault) (text : List ℕ) → IsOfText fault
    → Fails fault (plan_of text) → Faulty ≡ ending_of (report_text text)
ends_faulty fault text of_text fails =
    sym (report_ending text ∙ fault_ends fault (plan_of text) of_text fails)

pub ends_by_plan : (text : List ℕ) (plan : Plan) → plan_of text ≡ Ok plan
    → ending_by (replay_of plan).refused ≡ ending_of (report_text text)
ends_by_plan text plan is = sym (report_ending text ∙ ap plan_ending is)

-- the report of a schedule
pub report_is : (text : List ℕ) (plan : Plan) → plan_of text ≡ Ok plan
    → replay_text plan.shape.kind (replay_of plan) ≡ report_text text
unfolding report_text
report_is text plan is = sym (ap plan_text is)
