-- Definitions. A sentence whose places, names in braces, are filled with texts.
use Rattle.std.specs.Prelude.{ℕ, ◌==◌, ◌%◌, ◌/◌, zero, suc, List, [], ◌∷◌, ◌++◌, codes, map}
use Rattle.std.specs.Prelude.{nat_lt, if◌then◌else◌, Option, None, Some, option_map, find}
use Rattle.std.specs.Borrow.{Bor}
use Rattle.std.specs.Fmt.{decimal}
use Rattle.std.specs.Str.{bytes_eq}
use Rattle.std.specs.Fmt.InlineText.{inline_text}
use Rattle.lk_text.specs.declared.fills.Value.{Value}
use Rattle.lk_text.specs.declared.fills.Value.TheVariants.{Number, Text, Part, Short}
use Rattle.lk_text.specs.declared.fills.Value.TheVariants.{Numbered, Count}

-- the last three digits of a number
abbrev pub three_digits : ℕ → List ℕ
three_digits n = decimal (n / 100) ++ decimal ((n / 10) % 10) ++ decimal (n % 10)

-- a number in at most so many groups of three digits before the last one
abbrev pub in_groups : ℕ → ℕ → List ℕ
in_groups zero n = decimal n
in_groups (suc k) n =
    if nat_lt n 1000 then decimal n
    else in_groups k (n / 1000) ++ codes "," ++ three_digits (n % 1000)

-- the bytes of a text that is whole
abbrev pub bytes_of : Option (List ℕ) → List ℕ
bytes_of None = []
bytes_of (Some bytes) = bytes

-- a value as a text
abbrev pub value_text : Value → List ℕ
value_text (Number n) = decimal n
value_text (Text said) = said.now
value_text (Part said) = bytes_of said.now
value_text (Short said) = inline_text said
value_text (Numbered word n) = word.now ++ codes " " ++ decimal n
value_text (Count n one several) =
    in_groups 6 n ++ codes " " ++ (if n == 1 then one.now else several.now)

-- the value of a name
abbrev pub value_named : List (Bor (List ℕ) × Value) → List ℕ → Option Value
value_named places name = option_map (λ p. p.1) (find (λ p. bytes_eq p.0.now name) places)

-- names and texts: what fills the places of these names
abbrev pub texts_of : List (Bor (List ℕ) × Value) → List (List ℕ × List ℕ)
texts_of places = map (λ p. (p.0.now, value_text p.1)) places

abbrev pub or_name : Option (List ℕ × List ℕ) → List ℕ → List ℕ
or_name None name = codes "{" ++ name ++ codes "}"
or_name (Some p) name = p.1

-- a name that there is not stays as it is
abbrev pub place_text : List (List ℕ × List ℕ) → List ℕ → List ℕ
place_text texts name = or_name (find (λ p. bytes_eq p.0 name) texts) name

-- the rest of a sentence, in a place of which this much of the name was read, or in none
unfoldable pub filled_from : List (List ℕ × List ℕ) → Option (List ℕ) → List ℕ → List ℕ
filled_from texts None [] = []
filled_from texts (Some name) [] = 123 ∷ name
filled_from texts None (b ∷ bs) =
    if b == 123 then filled_from texts (Some []) bs else b ∷ filled_from texts None bs
filled_from texts (Some name) (b ∷ bs) =
    if b == 125 then place_text texts name ++ filled_from texts None bs
    else filled_from texts (Some (name ++ b ∷ [])) bs

-- a sentence, with its places filled; a brace without its end stays as it is
abbrev pub sentence_with : List (List ℕ × List ℕ) → List ℕ → List ℕ
sentence_with texts sentence = filled_from texts None sentence
