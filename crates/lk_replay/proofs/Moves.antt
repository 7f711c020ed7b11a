-- The header of a text and its moves, as they are read one after another.
use Rattle.std.proofs.Common.{◌≡◌, ℕ, ◌+◌, List, [], ◌∷◌, ◌++◌, length, true, sym, ap, ◌∙◌, arith}
use Rattle.std.proofs.Common.{Result, ◌≤◌, Err, false, Option, Some, None, Ok, Bool, ◌==◌, cond}
use Rattle.std.proofs.Common.{eq-eqb}
use Rattle.std.specs.List.{list_all}
use Rattle.std.proofs.lemmas.Bool.{and_parts, cond-true, cond-false, le-ltb, ne_eqb}
use Rattle.lk_lines.specs.Faults.{Fault, NoHeader, TooManyMoves}
use Rattle.lk_lines.specs.Lines.{SkipsTo, is_skipped, lines_of, IsNextMove, Numbered, move_of}
use Rattle.lk_replay.specs.Schedule.{moves_from, plan_from, plan_of, with_header, moves_after}
use Rattle.lk_replay.specs.Schedule.{with_line}
use Rattle.lk_replay.specs.declared.schedule.Line.{Line}
use Rattle.lk_lines.specs.Header.{header_of}
use Rattle.lk_lines.specs.Reads.{IsOfText, Fails, WantsMemory}
use Rattle.lk_lines.specs.declared.faults.ReadFault.{ReadFault}
use Rattle.lk_lines.specs.declared.faults.ReadFault.TheVariants.{OutOfMemory}
use Rattle.lk_locks.specs.declared.kinds.Move.{Move}

-- ---- lines that are skipped change nothing of what is read

front_skips : {X : Type 0} (f : ℕ → List (List ℕ) → X)
    → ((n : ℕ) (line : List ℕ) (lines : List (List ℕ)) → is_skipped line ≡ true
    → f n (line ∷ lines) ≡ f (n + 1) lines)
    → (lines others : List (List ℕ)) (number : ℕ) → list_all is_skipped lines ≡ true
    → f number (lines ++ others) ≡ f (number + length lines) others
front_skips f step [] others number all = ap (λ n. f n others) (omega arith)
front_skips f step (line ∷ lines) others number all =
    let both = and_parts (is_skipped line) (list_all is_skipped lines) all in
    step number line (lines ++ others) both.0 ∙ front_skips f step lines others (number + 1) both.1
    ∙ ap (λ n. f n others) (omega arith)

moves_skip : (number taken next : ℕ) (lines others : List (List ℕ))
    → SkipsTo number lines next others
    → moves_from number taken lines ≡ moves_from next taken others
moves_skip number taken next lines others s =
    let f : ℕ → List (List ℕ) → Result (List Line) Fault = λ n ls. moves_from n taken ls in
    ap (f number) s.parts
    ∙ front_skips f (λ n line rest is. cond-true _ _ _ is) s.skipped others number s.all
    ∙ ap (λ n. f n others) (sym s.counted)

plan_skip : (number next : ℕ) (lines others : List (List ℕ)) → SkipsTo number lines next others
    → plan_from number lines ≡ plan_from next others
plan_skip number next lines others s =
    ap (plan_from number) s.parts
    ∙ front_skips plan_from (λ n line rest is. cond-true _ _ _ is) s.skipped others number s.all
    ∙ ap (λ n. plan_from n others) (sym s.counted)

-- ---- the first line that is not skipped, and the plan or the fault that follows from it

-- no line but such as are skipped
pub no_header : (text : List ℕ) (number : ℕ) (others : List (List ℕ)) → length text ≤ 1048576
    → SkipsTo 1 (lines_of text) number others → others ≡ []
    → plan_of text ≡ Err (NoHeader number)
unfolding plan_of
no_header text number others small skips none =
    cond-false _ _ _ (le-ltb _ _ small) ∙ plan_skip 1 number (lines_of text) others skips
    ∙ ap (plan_from number) none

-- what keeps each fault fails as before
pub fails_as : {X Y : Type 0} (fault : ReadFault) (f : Result X Fault → Result Y Fault)
    (read : Result X Fault) → ((e : Fault) → f (Err e) ≡ Err e) → IsOfText fault
    → Fails fault read → Fails fault (f read)
fails_as OutOfMemory f read keeps text e = absurd text
fails_as fault f read keeps text e = ap f e ∙ keeps _

-- the first line that is not skipped is the header
pub header_here : (text line : List ℕ) (others : List (List ℕ)) (number : ℕ)
    → length text ≤ 1048576 → SkipsTo 1 (lines_of text) number (line ∷ others)
    → is_skipped line ≡ false
    → plan_of text ≡ with_header (header_of number line) (moves_from (number + 1) 0 others)
unfolding plan_of
header_here text line others number small skips read =
    cond-false _ _ _ (le-ltb _ _ small)
    ∙ plan_skip 1 number (lines_of text) (line ∷ others) skips ∙ cond-false _ _ _ read

-- ---- the moves

-- these lines, and then the lines of the rest, unless that has a fault
abbrev pub with_lines : List Line → Result (List Line) Fault → Result (List Line) Fault
with_lines prefix (Ok lines) = Ok (prefix ++ lines)
with_lines prefix (Err fault) = Err fault

-- the count of the rest and of the moves before it, unless the rest has a fault
abbrev pub more : ℕ → Result ℕ Fault → Result ℕ Fault
more n (Ok m) = Ok (n + m)
more n (Err fault) = Err fault

-- the next line that is not skipped is read
pub line_read : (from taken number : ℕ) (lines : List (List ℕ)) (line : List ℕ)
    (others : List (List ℕ)) (move : Option (ℕ × Move)) → SkipsTo from lines number (line ∷ others)
    → is_skipped line ≡ false → move_of line ≡ move
    → moves_from from taken lines
    ≡ moves_after move number (taken == 65536) (moves_from (number + 1) (taken + 1) others)
line_read from taken number lines line others move skips read is =
    rw (← is) (moves_skip from taken number lines (line ∷ others) skips ∙ cond-false _ _ _ read)

-- no line is left but such as are skipped
pub none_read : (from taken number : ℕ) (lines others : List (List ℕ)) → others ≡ []
    → SkipsTo from lines number others → moves_from from taken lines ≡ Ok []
none_read from taken number lines others none skips =
    moves_skip from taken number lines others skips ∙ ap (moves_from number taken) none

-- the next move is read, and then the moves of the other lines
pub next_read : (old new : Numbered) (line : Line) (taken : ℕ)
    → IsNextMove old line.number line.thread line.action new → (taken ≡ 65536 → ⊥)
    → moves_from old.number taken old.lines
    ≡ with_line line (moves_from new.number (taken + 1) new.lines)
next_read old new line taken next room =
    rw next.counted
    (line_read old.number taken line.number old.lines next.line new.lines
    (Some (line.thread, line.action)) next.found next.read next.move
    ∙ cond-false _ _ _ (ne_eqb taken 65536 room))

pub too_many : (old new : Numbered) (line : Line) (taken : ℕ)
    → IsNextMove old line.number line.thread line.action new → taken ≡ 65536
    → moves_from old.number taken old.lines ≡ Err (TooManyMoves line.number)
too_many old new line taken next full =
    line_read old.number taken line.number old.lines next.line new.lines
    (Some (line.thread, line.action)) next.found next.read next.move
    ∙ cond-true _ _ _ (eq-eqb taken 65536 full)

line_wants : (skipped full : Bool) (move : Option (ℕ × Move)) (number : ℕ)
    (rest others : Result (List Line) Fault) → WantsMemory rest → WantsMemory others
    → WantsMemory (cond skipped rest (moves_after move number full others))
line_wants true full move number rest others r o = r
line_wants false full None number rest others r o = tt
line_wants false true (Some move) number rest others r o = tt
line_wants false false (Some move) number rest (Ok lines) r o = tt
line_wants false false (Some move) number rest (Err fault) r o = o

-- what the moves give may take memory
pub moves_want : (number taken : ℕ) (lines : List (List ℕ))
    → WantsMemory (moves_from number taken lines)
moves_want number taken [] = tt
moves_want number taken (line ∷ lines) =
    line_wants (is_skipped line) (taken == 65536) (move_of line) number _ _
    (moves_want (number + 1) taken lines) (moves_want (number + 1) (taken + 1) lines)
