-- The values that the getters read from the rows of a plain batch line.
use Rattle.std.proofs.Common.{◌≡◌, ◌∙◌, ℕ, ◌+◌, ◌<◌, ◌≤◌, List, Option, Some, None, Result}
use Rattle.std.proofs.Common.{option_map, codes, refl, ap, arith, suc}
use Rattle.std.specs.Prelude.{unwrap_or, IsSomeAnd, ◌==◌}
use Rattle.std.proofs.lemmas.Bool.{not-true}
use Rattle.std.proofs.lemmas.Option.{none-some, same_Some}
use Rattle.std.specs.Str.Parse.{ParsesUnsigned, digits_value, without_leading_plus, IsNumeral}
use Rattle.std.specs.Char.{digit_value}
use Rattle.clap.specs.Matches.{ReadsOne, matched_of, one_text, raw_values}
use Rattle.clap.specs.declared.parser.matches.Found.{Found}
use Rattle.clap.proofs.WalkLemmas.{one_text-rows, raw_values-rows}
use Rattle.clap.specs.Words.{Text, all_of, one_of, rows_of}
use Rattle.lockreplay.specs.Commands.{batch_rows, digit}
use Rattle.lockreplay.proofs.PlainLines.{plain_digit}

-- the digit is a numeral, and writes the number
is_number : (workers : ℕ) → workers ≤ 9
    → (digits_value 10 (without_leading_plus (digit workers)) ≡ workers)
    × (without_leading_plus (digit workers) ≡ digit workers) × (digit_value (48 + workers) < 10)
is_number (suc (suc (suc (suc (suc (suc (suc (suc (suc (suc k)))))))))) most =
    absurd (omega (arith, most))
is_number workers most = (refl, refl, omega arith)

is_numeral : (workers : ℕ) → workers ≤ 9 → IsNumeral 10 (without_leading_plus (digit workers))
is_numeral workers most =
    let number = is_number workers most in
    rw (number.1) (omega arith, (number.2, tt))

-- `get_one::<u8>` of the digit
reads_digit : {E : Type 0} (gives : Text → Result ℕ E → Type 0)
    → ((t : Text) (r : Result ℕ E) → gives t r → ParsesUnsigned 8 10 t r)
    → (workers : ℕ) (r : Option ℕ) → workers ≤ 9 → ReadsOne gives (digit workers) r
    → r ≡ Some workers
reads_digit gives parses workers (Some n) most read =
    ap Some ((parses _ _ read).1 ∙ (is_number workers most).0)
reads_digit gives parses workers None most read =
    let number = is_number workers most in
    absurd (parses _ _ read.1 (is_numeral workers most, omega (arith, number.0, most)))

-- the rows have the digit of `--workers`
finds_digit : (workers : ℕ) (files : List Text)
    → one_of (codes "workers") (batch_rows workers files) ≡ Some (digit workers)
finds_digit workers files = rw (not-true ((48 + workers) == 45) (plain_digit workers)) refl

-- the workers that `get_one` and `unwrap_or` read of the rows
pub workers_read : {E : Type 0} (gives : Text → Result ℕ E → Type 0)
    → ((t : Text) (r : Result ℕ E) → gives t r → ParsesUnsigned 8 10 t r)
    → (found : Found) (workers got : ℕ) (files : List Text) (read : Option ℕ) → workers ≤ 9
    → rows_of found ≡ batch_rows workers files
    → ((t : Text) → one_text found (codes "workers") ≡ Some t → ReadsOne gives t read)
    → got ≡ unwrap_or read 0 → got ≡ workers
workers_read gives parses found workers got files read most rows value is =
    is ∙ ap (λ (o : Option ℕ). unwrap_or o 0) (reads_digit gives parses workers read most
    (value (digit workers) (one_text-rows found (codes "workers")
    ∙ ap (one_of (codes "workers")) rows ∙ finds_digit workers files)))

-- a default leaves the value of an option that has one
taken_texts : {X : Type 0} (f : X → List Text) (o : Option X) (d : X) (files : List Text)
    → option_map f o ≡ Some files → f (unwrap_or o d) ≡ files
taken_texts f None d files e = absurd (none-some files e)
taken_texts f (Some x) d files e = same_Some _ _ e

-- the files that `get_strs` and `unwrap_or` read of the rows
pub files_read : {X : Type 0} (f : X → List Text) (read : Option X) (d got : X) (found : Found)
    (workers : ℕ) (files : List Text) → rows_of found ≡ batch_rows workers files
    → option_map f read ≡ option_map raw_values (matched_of found (codes "files"))
    → got ≡ unwrap_or read d → f got ≡ files
files_read f read d got found workers files rows reads is =
    ap f is ∙ taken_texts f read d files (reads ∙ raw_values-rows found (codes "files")
    ∙ ap (all_of (codes "files")) rows)

-- a value that has a fact of equality is that value
pub is_given : {X : Type 0} (o : Option X) (v : X) → IsSomeAnd o (λ x. x ≡ v) → o ≡ Some v
is_given None v h = absurd h
is_given (Some x) v h = ap Some h

-- the first of each pair
pub first_of_pairs : {B X Y : Type 0} (f : B → X) (g : B → Y) (o : Option B) (x : X) (y : Y)
    → option_map {U = X × Y} (λ b. (f b, g b)) o ≡ Some (x, y) → option_map f o ≡ Some x
first_of_pairs {X = X} {Y = Y} f g None x y e = absurd (none-some (x, y) e)
first_of_pairs {X = X} {Y = Y} f g (Some b) x y e = ap (option_map (λ (p : X × Y). p.0)) e
