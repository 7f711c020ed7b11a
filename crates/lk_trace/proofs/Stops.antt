-- A line of a sketch stops nowhere exactly if it is one. Whose move it is, and on which word, is
-- all the same.
use Rattle.std.proofs.Common.{◌≡◌, ◌≤◌, ℕ, List, [], ◌∷◌, Option, Some, None, Result, Ok, Err}
use Rattle.std.proofs.Common.{Bool, true, false, not, cond, ◌||◌, ◌&&◌, is_ok, is_some, arith}
use Rattle.std.proofs.Common.{bytes_eq, codes, length, nat_lt, refl}
use Rattle.std.specs.Option.{ok_or, option_map_or}
use Rattle.std.specs.Result.{result_ok}
use Rattle.lk_locks.specs.declared.kinds.Move.{Move}
use Rattle.lk_locks.specs.declared.kinds.Move.TheVariants.{Call, Step}
use Rattle.lk_locks.specs.declared.kinds.StepKind.{StepKind}
use Rattle.lk_locks.specs.declared.kinds.StepKind.TheVariants.{Section}
use Rattle.lk_lines.specs.Lines.{tokens_of}
use Rattle.lk_lines.specs.Vocabulary.{move_named}
use Rattle.lk_trace.specs.Lines.{◌>>=◌, Read, Remaining, Words, in_record, owner_of}
use Rattle.lk_trace.specs.Lines.{outcome_alone, seen_of, step_of, values_in, values_of, with_place}
use Rattle.lk_trace.specs.Open.{doer_named, doer_of, filled_line, filled_line_on, move_after}
use Rattle.lk_trace.specs.Unreadable.{both_stop, is_open_line, sketch_stop}
use Rattle.lk_trace.specs.declared.due.Due.TheVariants.{AnyThread, Found, Of, OpenMove, Place}
use Rattle.lk_trace.specs.declared.line.TraceLine.{TraceLine}
use Rattle.lk_trace.specs.declared.names.WordName.{WordName}
use Rattle.lk_trace.specs.declared.names.WordName.TheVariants.{Tail, Next, Locked}

-- ---- two readings that end alike, if what follows does

after : {A B : Type 0} (read : Result A Remaining) (f g : A → Result B Remaining)
    → ((a : A) → is_ok (f a) ≡ is_ok (g a)) → is_ok (read >>= f) ≡ is_ok (read >>= g)
after (Ok part) f g same = same part
after (Err stop) f g same = refl

whole : {A B : Type 0} (a b : Result A Remaining) (f g : A → B) → is_ok a ≡ is_ok b
    → is_ok (a >>= λ x. Ok (f x)) ≡ is_ok (b >>= λ x. Ok (g x))
whole a b f g same = grind (arith)

either : {A : Type 0} (is_read : A → Bool) (test : Bool) (a b x y : A) → is_read a ≡ is_read x
    → is_read b ≡ is_read y → is_read (cond test a b) ≡ is_read (cond test x y)
either is_read true a b x y first second = first
either is_read false a b x y first second = second

unless_alone : {A B : Type 0} (found : Option A) (f : A → Result B Remaining)
    (a b : Result B Remaining) → is_ok a ≡ is_ok b
    → is_ok (option_map_or f found a) ≡ is_ok (option_map_or f found b)
unless_alone (Some x) f a b same = refl
unless_alone None f a b same = same

-- ---- on which word a step was, and whose own record it is in

abbrev is_read : StepKind → Read (Option WordName) → Bool
is_read kind place = is_ok (with_place kind place)

record_same : (t u : ℕ) (kind : StepKind) (word : ℕ → WordName) (owner : Read (Option ℕ))
    → is_read kind (in_record t word owner) ≡ is_read kind (in_record u word owner)
record_same t u kind word (Ok owner) = after (values_in kind owner.1) _ _ (λ values. refl)
record_same t u kind word (Err stop) = refl

place_same : (t u : ℕ) (kind : StepKind) (words : Words)
    → is_ok (values_of t kind (words, Place kind)) ≡ is_ok (values_of u kind (words, Place kind))
place_same t u kind [] = refl
place_same t u kind (name ∷ rest) =
    let owner = owner_of kind (rest, Of kind) in
    either (is_read kind) (bytes_eq name (codes "next_ticket")) _ _ _ _ refl
    (either (is_read kind) (bytes_eq name (codes "now_serving")) _ _ _ _ refl
    (either (is_read kind) (bytes_eq name (codes "tail")) _ _ _ _ refl
    (either (is_read kind) (bytes_eq name (codes "next")) _ _ _ _ (record_same t u kind Next owner)
    (either (is_read kind) (bytes_eq name (codes "locked")) _ _ _ _
    (record_same t u kind Locked owner) refl))))

-- ---- a move

step_same : (t u : ℕ) (kind : StepKind) (words : Words)
    → is_ok (step_of t kind words) ≡ is_ok (step_of u kind words)
step_same t u kind words = unless_alone (outcome_alone words) _ _ _ (place_same t u kind words)

named_same : (t u : ℕ) (action : Move) (words : Words)
    → is_ok (seen_of t None action words) ≡ is_ok (seen_of u None action words)
named_same t u (Call op) words = refl
named_same t u (Step Section) words = refl
named_same t u (Step kind) words = step_same t u kind words

on_same : (t u : ℕ) (v w : WordName) (action : Move) (words : Words)
    → is_ok (seen_of t (Some v) action words) ≡ is_ok (seen_of u (Some w) action words)
on_same t u v w (Call op) words = refl
on_same t u v w (Step Section) words = refl
on_same t u v w (Step kind) words =
    after (values_in kind (words, Found kind)) _ _ (λ values. refl)

move_same : (t u : ℕ) (on other : Option WordName)
    → ((action : Move) (words : Words)
    → is_ok (seen_of t on action words) ≡ is_ok (seen_of u other action words))
    → (words : Words) → is_ok (move_after t on words) ≡ is_ok (move_after u other words)
move_same t u on other same (first ∷ name ∷ words) =
    after (ok_or (move_named name) (name ∷ words, OpenMove)) _ _
    (λ action. whole _ _ _ _ (same action words))
move_same t u on other same words = refl

-- ---- a line

line_stops : (doer long : Bool) (stop : Remaining) (named unnamed a b : Result TraceLine Remaining)
    → long ≡ false → is_ok named ≡ is_ok a → is_ok unnamed ≡ is_ok b
    → is_some (cond doer (both_stop named unnamed) (Some stop))
    ≡ not (doer
    && (is_some (cond long None (result_ok a)) || is_some (cond long None (result_ok b))))
line_stops doer long stop named unnamed a b short p q = grind (arith)

pub open_lines_stop : (line : List ℕ) → length line ≤ 96 → (thread : ℕ) (word : WordName)
    → is_some (sketch_stop (tokens_of line)) ≡ not (is_open_line thread word line)
unfolding doer_of filled_line filled_line_on
open_lines_stop line within thread word =
    let words : Words = tokens_of line in
    line_stops (is_some (doer_named words)) (nat_lt 96 (length line)) (words, AnyThread)
    (move_after 0 None words) (move_after 0 (Some Tail) words) (move_after thread None words)
    (move_after thread (Some word) words) (grind (arith))
    (move_same 0 thread None None (named_same 0 thread) words)
    (move_same 0 thread (Some Tail) (Some word) (on_same 0 thread Tail word) words)
