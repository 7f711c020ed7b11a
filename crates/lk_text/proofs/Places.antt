-- The place of a name is filled with the text of the value of that name.
use Rattle.std.proofs.Common.{◌≡◌, ℕ, List, [], ◌∷◌, ◌++◌, ◌∙◌, Some, None, Option, refl, ap}
use Rattle.std.proofs.Common.{codes, Bool, true, false, Bor}
use Rattle.std.specs.Prelude.{find, option_map, if◌then◌else◌}
use Rattle.std.specs.Str.{bytes_eq}
use Rattle.std.proofs.lemmas.Option.{none-some, same_Some}
use Rattle.lk_text.specs.Filled.{or_name, place_text, texts_of, value_named, value_text}
use Rattle.lk_text.specs.declared.fills.Value.{Value}

-- the text of the value that was found, if one was
abbrev text_or : Option (Bor (List ℕ) × Value) → List ℕ → List ℕ
text_or None name = codes "{" ++ name ++ codes "}"
text_or (Some p) name = value_text p.1

at_head : (test : Bool) (p : Bor (List ℕ) × Value) (texts : Option (List ℕ × List ℕ))
    (found : Option (Bor (List ℕ) × Value)) (name : List ℕ)
    → or_name texts name ≡ text_or found name
    → or_name (if test then Some (p.0.now, value_text p.1) else texts) name
    ≡ text_or (if test then Some p else found) name
at_head true p texts found name same = refl
at_head false p texts found name same = same

text_found : (places : List (Bor (List ℕ) × Value)) (name : List ℕ)
    → place_text (texts_of places) name
    ≡ text_or (find (λ p. bytes_eq p.0.now name) places) name
text_found [] name = refl
text_found (p ∷ places) name =
    at_head (bytes_eq p.0.now name) p _ _ name (text_found places name)

pub is_named : (places : List (Bor (List ℕ) × Value)) (name : List ℕ) (value : Value)
    → value_named places name ≡ Some value → place_text (texts_of places) name ≡ value_text value
is_named places name value is =
    text_found places name ∙ of_some (find (λ p. bytes_eq p.0.now name) places) is
  where
    of_some : (o : Option (Bor (List ℕ) × Value)) → option_map (λ p. p.1) o ≡ Some value
        → text_or o name ≡ value_text value
    of_some None same = absurd (none-some value same)
    of_some (Some p) same = ap value_text (same_Some p.1 value same)

pub is_not_named : (places : List (Bor (List ℕ) × Value)) (name : List ℕ)
    → value_named places name ≡ None
    → place_text (texts_of places) name ≡ codes "{" ++ name ++ codes "}"
is_not_named places name is =
    text_found places name ∙ of_none (find (λ p. bytes_eq p.0.now name) places) is
  where
    of_none : (o : Option (Bor (List ℕ) × Value)) → option_map (λ p. p.1) o ≡ None
        → text_or o name ≡ codes "{" ++ name ++ codes "}"
    of_none None same = refl
    of_none (Some p) same = absurd (cc)
