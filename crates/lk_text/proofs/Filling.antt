-- A sentence is filled place by place.
use Rattle.std.proofs.Common.{◌≡◌, ◌≢◌, ℕ, suc, ◌<◌, List, [], ◌∷◌, ◌++◌, length, get_or, refl}
use Rattle.std.proofs.Common.{sym, ap, ◌∙◌, arith, append_assoc, append-nil, ne_eqb, Some, None}
use Rattle.lk_text.specs.Filled.{sentence_with, filled_from, place_text}

-- no byte of it is this one
abbrev pub Lacks : ℕ → List ℕ → Type 0
Lacks c xs = (i : ℕ) → i < length xs → get_or xs i 0 ≢ c

-- the text before a place stays
front_stays : (texts : List (List ℕ × List ℕ)) (xs rest : List ℕ) → Lacks 123 xs
    → filled_from texts None (xs ++ rest) ≡ xs ++ filled_from texts None rest
unfolding filled_from
front_stays texts [] rest h = refl
front_stays texts (x ∷ xs) rest h =
    rw (ne_eqb x 123 (h 0 (omega arith)))
    (ap (λ l. x ∷ l) (front_stays texts xs rest (λ i less. h (suc i) (omega arith))))

name_read : (texts : List (List ℕ × List ℕ)) (name xs rest : List ℕ) → Lacks 125 xs
    → filled_from texts (Some name) (xs ++ rest) ≡ filled_from texts (Some (name ++ xs)) rest
unfolding filled_from
name_read texts name [] rest h = rw append-nil
name_read texts name (x ∷ xs) rest h =
    rw (ne_eqb x 125 (h 0 (omega arith)))
    (name_read texts (name ++ x ∷ []) xs rest (λ i less. h (suc i) (omega arith))
    ∙ rw append_assoc)

-- a brace without its end
open_stays : (texts : List (List ℕ × List ℕ)) (name xs : List ℕ) → Lacks 125 xs
    → filled_from texts (Some name) xs ≡ 123 ∷ (name ++ xs)
unfolding filled_from
open_stays texts name [] h = rw append-nil
open_stays texts name (x ∷ xs) h =
    rw (ne_eqb x 125 (h 0 (omega arith)))
    (open_stays texts (name ++ x ∷ []) xs (λ i less. h (suc i) (omega arith))
    ∙ rw append_assoc)

-- a place, and what comes after it
pub at_place : (texts : List (List ℕ × List ℕ)) (front name behind : List ℕ) → Lacks 123 front
    → Lacks 125 name
    → sentence_with texts (front ++ 123 ∷ (name ++ 125 ∷ behind))
    ≡ front ++ (place_text texts name ++ sentence_with texts behind)
unfolding filled_from
at_place texts front name behind flat closed =
    front_stays texts front (123 ∷ (name ++ 125 ∷ behind)) flat
    ∙ ap (λ l. front ++ l) (name_read texts [] name (125 ∷ behind) closed)

pub at_open : (texts : List (List ℕ × List ℕ)) (front place : List ℕ) → Lacks 123 front
    → Lacks 125 place → sentence_with texts (front ++ 123 ∷ place) ≡ front ++ 123 ∷ place
unfolding filled_from
at_open texts front place flat open_end =
    front_stays texts front (123 ∷ place) flat
    ∙ ap (λ l. front ++ l) (open_stays texts [] place open_end)

-- a sentence without a place
pub no_place : (texts : List (List ℕ × List ℕ)) (xs : List ℕ) → Lacks 123 xs
    → sentence_with texts xs ≡ xs
unfolding filled_from
no_place texts [] h = refl
no_place texts (x ∷ xs) h =
    rw (ne_eqb x 123 (h 0 (omega arith)))
    (ap (λ l. x ∷ l) (no_place texts xs (λ i less. h (suc i) (omega arith))))

-- a place more is written
pub one_place : (texts : List (List ℕ × List ℕ))
    (text old sentence rest front place name behind : List ℕ)
    → rest ≡ front ++ 123 ∷ place → Lacks 123 front → place ≡ name ++ 125 ∷ behind → Lacks 125 name
    → text ++ sentence_with texts rest ≡ old ++ sentence_with texts sentence
    → ((text ++ front) ++ place_text texts name) ++ sentence_with texts behind
    ≡ old ++ sentence_with texts sentence
one_place texts text old sentence rest front place name behind rest_is flat place_is closed so =
    let whole : sentence_with texts rest
    ≡ front ++ (place_text texts name ++ sentence_with texts behind) =
    ap (sentence_with texts) (rest_is ∙ ap (λ l. front ++ 123 ∷ l) place_is)
    ∙ at_place texts front name behind flat closed in
    simp append_assoc (ap (λ l. text ++ l) (sym whole) ∙ so)

-- the rest is written, which has a brace without its end
pub open_rest : (texts : List (List ℕ × List ℕ)) (text old sentence rest front place : List ℕ)
    → rest ≡ front ++ 123 ∷ place → Lacks 123 front → Lacks 125 place
    → text ++ sentence_with texts rest ≡ old ++ sentence_with texts sentence
    → ((text ++ front) ++ 123 ∷ []) ++ place ≡ old ++ sentence_with texts sentence
open_rest texts text old sentence rest front place rest_is flat open_end so =
    let whole : sentence_with texts rest ≡ front ++ 123 ∷ place =
    ap (sentence_with texts) rest_is ∙ at_open texts front place flat open_end in
    simp append_assoc (ap (λ l. text ++ l) (sym whole) ∙ so)

-- the rest is written, which has no place
pub plain_rest : (texts : List (List ℕ × List ℕ)) (text old sentence rest : List ℕ)
    → Lacks 123 rest → text ++ sentence_with texts rest ≡ old ++ sentence_with texts sentence
    → text ++ rest ≡ old ++ sentence_with texts sentence
plain_rest texts text old sentence rest flat so =
    ap (λ l. text ++ l) (sym (no_place texts rest flat)) ∙ so
