-- The first line of a text, if it is a thread's number, a move's token and a line feed.
use Rattle.std.proofs.Common.{length, length-append, append_assoc, slice_index_or, take-append-drop}
use Rattle.std.proofs.Common.{◌≡◌, false, arith, eq-eqb, subst, nat_le, Option, IfSome, MatchOption}
use Rattle.std.proofs.Common.{◌≢◌, List, ◌++◌, Some, true, refl, Bool, ◌==◌, ◌&&◌, ◌||◌, take, drop}
use Rattle.std.proofs.Common.{ℕ, ◌+◌, ◌-◌, ◌*◌, ◌<◌, ◌≤◌, [], ◌∷◌, sym, ap, ◌∙◌, not, suc, None}
use Rattle.std.proofs.lemmas.List.{take_rest}
use Rattle.lk_lines.specs.Digits.{is_plain_number, value_from}
use Rattle.std.proofs.lemmas.List.Splits.{slice_split-cons_no, slice_split-cons_yes}
use Rattle.std.specs.{List.onto_first, List.slice_split, Str.all_ascii_digits, Char.is_ascii_digit}
use Rattle.std.proofs.lemmas.Bool.{and_parts, le-leb, leb-true, ne_eqb}
use Rattle.lk_locks.specs.{declared.kinds.Move.Move, declared.kinds.Op.TheVariants.Acquire}
use Rattle.lk_locks.specs.declared.kinds.Move.TheVariants.{Call, Step}
use Rattle.lk_locks.specs.declared.kinds.StepKind.TheVariants.{Read}
use Rattle.lk_lines.specs.FirstMove.{IsFirstMove, IsFirstThread}
use Rattle.lk_lines.specs.Lines.{IsNextMove, Numbered, is_line_feed, is_skipped, lines_of}
use Rattle.lk_lines.specs.Vocabulary.{move_named, move_name, number_of}
use Rattle.lk_lines.proofs.Cuts.{both_lines, is_line, line_first, one_piece, split_append}
use Rattle.lk_lines.proofs.Pieces.{move_read}

-- a digit is no other byte
digit_differs : (c b : ℕ) → is_ascii_digit c ≡ true → b < 48 → (c == b) ≡ false
digit_differs c b digit below =
    let least = leb-true 48 c (and_parts (nat_le 48 c) (nat_le c 57) digit).0 in
    ne_eqb c b (λ same. omega (arith, least, below, same))

-- digits are cut at no byte but a digit
digits_cut : (b : ℕ) (ds rest : List ℕ) → all_ascii_digits ds ≡ true → b < 48
    → slice_split (λ c. c == b) (ds ++ b ∷ rest) ≡ ds ∷ slice_split (λ c. c == b) rest
digits_cut b [] rest digits below = slice_split-cons_yes (λ c. c == b) b rest (eq-eqb b b refl)
digits_cut b (d ∷ ds) rest digits below =
    let (here, others) = and_parts (is_ascii_digit d) (all_ascii_digits ds) digits in
    slice_split-cons_no (λ c. c == b) d (ds ++ b ∷ rest) (digit_differs d b here below)
    ∙ ap (onto_first d) (digits_cut b ds rest others below)

digits_line : (ds : List ℕ) → all_ascii_digits ds ≡ true → is_line ds ≡ true
digits_line [] digits = refl
digits_line (d ∷ ds) digits =
    let (here, others) = and_parts (is_ascii_digit d) (all_ascii_digits ds) digits in
    ap (λ (feed : Bool). not feed && is_line ds) (digit_differs d 10 here (omega arith))
    ∙ digits_line ds others

digits_read : (ds rest : List ℕ) → 0 < length ds → all_ascii_digits ds ≡ true
    → is_skipped (ds ++ rest) ≡ false
digits_read [] rest some digits = absurd (omega (arith, some))
digits_read (d ∷ ds) rest some digits =
    ap (λ (none : Bool). none || (d == 35))
    (ne_eqb (suc (length (ds ++ rest))) 0 (λ same. omega (arith, same)))
    ∙ digit_differs d 35 (and_parts (is_ascii_digit d) (all_ascii_digits ds) digits).0 (omega arith)

token_line : (m : Move) → is_line (move_name m) ≡ true
token_line (Call Acquire) = refl
token_line (Step Read) = refl
token_line m = refl

token_named : (m : Move) → move_named (move_name m) ≡ Some m
unfolding move_named
token_named (Call Acquire) = refl
token_named (Step Read) = refl
token_named m = refl

pub first_line : (text : List ℕ) (thread : ℕ) (rest after : List ℕ) (action : Move)
    → IsFirstThread text thread rest → rest ≡ move_name action ++ 10 ∷ after
    → IsFirstMove text thread action after
first_line text thread rest after action is token =
    let number = is.number in
    let tail : List ℕ = 32 ∷ move_name action in
    let line : List ℕ = number ++ tail in
    let whole : text ≡ line ++ 10 ∷ after =
    is.parts ∙ ap (λ (ys : List ℕ). number ++ 32 ∷ ys) token
    ∙ sym (append_assoc number tail (10 ∷ after)) in
    let clear : is_line line ≡ true =
    both_lines number tail (digits_line number is.digits) (token_line action) in
    record {
      line = line;
      first = line_first text line after (ap (slice_split is_line_feed) whole
          ∙ split_append is_line_feed line 10 after refl
          ∙ ap (λ (ps : List (List ℕ)). ps ++ slice_split is_line_feed after)
          (one_piece line clear));
      read = digits_read number tail is.some is.digits;
      move = move_read line number (move_name action) (Some thread) (Some action)
          (digits_cut 32 number (move_name action) is.digits (omega arith)) is.value
          (token_named action);
      shorter = omega (arith, ap length whole, length-append line (10 ∷ after));
    }

-- ---- a number of one digit, and of two

value_is : (ds : List ℕ) (thread : ℕ) → is_plain_number ds ≡ true → value_from 0 ds ≡ thread
    → thread ≤ 255 → number_of 0 255 ds ≡ Some thread
unfolding number_of
value_is ds thread plain is most =
    rw (plain, is, le-leb 0 thread (omega arith), le-leb thread 255 most) refl

two_first : (text : List ℕ) → 3 ≤ length text
    → text ≡ slice_index_or text 0 0 ∷ slice_index_or text 1 0 ∷ drop 2 text
two_first [] long = absurd (omega (arith, long))
two_first (a ∷ []) long = absurd (omega (arith, long))
two_first (a ∷ b ∷ cs) long = refl

three_first : (text : List ℕ) → 3 ≤ length text
    → text
    ≡ slice_index_or text 0 0 ∷ slice_index_or text 1 0 ∷ slice_index_or text 2 0 ∷ drop 3 text
three_first [] long = absurd (omega (arith, long))
three_first (a ∷ []) long = absurd (omega (arith, long))
three_first (a ∷ b ∷ []) long = absurd (omega (arith, long))
three_first (a ∷ b ∷ c ∷ cs) long = refl

digit_most : (c : ℕ) → is_ascii_digit c ≡ true → c ≤ 57
digit_most c digit = leb-true c 57 (and_parts (nat_le 48 c) (nat_le c 57) digit).1

pub one_digit : (text rest : List ℕ) (thread : ℕ) → 3 ≤ length text
    → is_ascii_digit (slice_index_or text 0 0) ≡ true → slice_index_or text 1 0 ≡ 32
    → rest ≡ take (length text - 2) (drop 2 text) → thread ≡ slice_index_or text 0 0 - 48
    → IsFirstThread text thread rest
one_digit text rest thread long digit space is value =
    let a = slice_index_or text 0 0 in
    let digits : all_ascii_digits (a ∷ []) ≡ true =
    ap (λ (here : Bool). here && true) digit in
    record {
      number = a ∷ [];
      parts = two_first text long ∙ ap (λ (c : ℕ). a ∷ c ∷ drop 2 text) space
          ∙ ap (λ (ys : List ℕ). a ∷ 32 ∷ ys) (sym (is ∙ take_rest text 2));
      some = omega arith;
      digits = digits;
      value = value_is (a ∷ []) thread (ap (λ (here : Bool). here && true) digits)
          (omega (arith, value)) (omega (arith, value, digit_most a digit));
    }

pub two_digits : (text rest : List ℕ) (thread : ℕ) → 3 ≤ length text
    → is_ascii_digit (slice_index_or text 0 0) ≡ true → slice_index_or text 0 0 - 48 ≢ 0
    → is_ascii_digit (slice_index_or text 1 0) ≡ true → slice_index_or text 2 0 ≡ 32
    → rest ≡ take (length text - 3) (drop 3 text)
    → thread ≡ (slice_index_or text 0 0 - 48) * 10 + (slice_index_or text 1 0 - 48)
    → IsFirstThread text thread rest
two_digits text rest thread long digit no_zero next space is value =
    let a = slice_index_or text 0 0 in
    let b = slice_index_or text 1 0 in
    let digits : all_ascii_digits (a ∷ b ∷ []) ≡ true =
    ap (λ (here : Bool). here && (is_ascii_digit b && true)) digit
    ∙ ap (λ (here : Bool). here && true) next in
    let plain : not (a == 48) ≡ true =
    ap not (ne_eqb a 48 (λ same. no_zero (omega (arith, same)))) in
    record {
      number = a ∷ b ∷ [];
      parts = three_first text long ∙ ap (λ (c : ℕ). a ∷ b ∷ c ∷ drop 3 text) space
          ∙ ap (λ (ys : List ℕ). a ∷ b ∷ 32 ∷ ys) (sym (is ∙ take_rest text 3));
      some = omega arith;
      digits = digits;
      value = value_is (a ∷ b ∷ []) thread
          (ap (λ (here : Bool). here && not (a == 48)) digits ∙ plain) (omega (arith, value))
          (omega (arith, value, digit_most a digit, digit_most b next));
    }

-- bytes that are stripped in two parts come first
pub some_gives : {A : Type 0} (r : Option A) (P : Type 0) (Q R : A → Type 0) → MatchOption r P Q
    → ((x : A) → Q x → R x) → IfSome r R
some_gives None P Q R fact gives = tt
some_gives (Some x) P Q R fact gives = gives x fact

pub both_stripped : (text bytes mid part rest : List ℕ) → text ≡ take 4 bytes ++ mid
    → part ≡ take (length bytes - 4) (drop 4 bytes) → mid ≡ part ++ rest → text ≡ bytes ++ rest
both_stripped text bytes mid part rest first is next =
    first ∙ ap (λ (ys : List ℕ). take 4 bytes ++ ys) next
    ∙ sym (append_assoc (take 4 bytes) part rest)
    ∙ ap (λ (ys : List ℕ). (take 4 bytes ++ ys) ++ rest) (is ∙ take_rest bytes 4)
    ∙ ap (λ (ys : List ℕ). ys ++ rest) (take-append-drop 4 bytes)

-- ---- the lines after it

pub next_is : (old : Numbered) (text rest : List ℕ) (number thread : ℕ) (action : Move)
    → record { number = number; lines = lines_of text } ≡ old → IsFirstMove text thread action rest
    → IsNextMove old number thread action (record { number = number + 1; lines = lines_of rest })
next_is old text rest number thread action is first =
    subst (λ (n : Numbered). IsNextMove n number thread action
    (record { number = number + 1; lines = lines_of rest })) is (record {
      line = first.line;
      found = record { skipped = []; parts = first.first; all = refl; counted = omega arith };
      read = first.read;
      move = first.move;
      counted = refl;
    })
