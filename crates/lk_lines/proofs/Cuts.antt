-- A text, cut at the first of some byte.
use Rattle.std.proofs.Common.{eq-eqb, ◌≡◌, ℕ, ◌+◌, ◌-◌, ◌<◌, List, [], ◌∷◌, ◌++◌, length, get_or}
use Rattle.std.proofs.Common.{take, drop, Bool, true, false, not, ◌==◌, refl, sym, ap, ◌∙◌, arith}
use Rattle.std.proofs.Common.{take-append-drop, length-take-le, get_or-take, inl, inr}
use Rattle.std.specs.List.{slice_split, All, list_all, onto_first}
use Rattle.std.proofs.lemmas.List.Folds.{list_all-append}
use Rattle.std.proofs.lemmas.List.Splits.{slice_split_none, slice_split_at, length-slice_split}
use Rattle.std.proofs.lemmas.List.Splits.{slice_split-cons_yes}
use Rattle.std.proofs.lemmas.List.{drop_more, take_rest, get_or_default}
use Rattle.std.proofs.lemmas.Bool.{cases_Bool, ne_eqb}
use Rattle.lk_lines.specs.Lines.{lines_of, without_empty_end, is_line_feed}

pub cut_nowhere : (byte : ℕ) (text : List ℕ)
    → ((k : ℕ) → k < length text → get_or text k 0 ≡ byte → ⊥)
    → slice_split (λ b. b == byte) text ≡ text ∷ []
cut_nowhere byte text none = slice_split_none (λ b. b == byte) text
    (λ k d h. ap (λ x. x == byte) (get_or_default text k d 0 h)
    ∙ ne_eqb _ _ (none k h))

pub cut_first : (byte : ℕ) (text : List ℕ) (at : ℕ)
    → ((k : ℕ) → k < at → get_or text k 0 ≡ byte → ⊥) → at < length text → get_or text at 0 ≡ byte
    → slice_split (λ b. b == byte) text
    ≡ take at text
    ∷ slice_split (λ b. b == byte) (take (length text - (at + 1)) (drop (at + 1) text))
cut_first byte text at none within here =
    let p : ℕ → Bool = λ b. b == byte in
    let size : length (take at text) ≡ at = length-take-le at text (omega arith) in
    let clear : All (λ x. p x ≡ false) (take at text) =
    λ k d h. let below : k < at = omega (arith, size, h) in
    ap p (get_or-take at text k d below ∙ get_or_default text k d 0 (omega arith))
    ∙ ne_eqb _ _ (none k below) in
    ap (slice_split p) (sym (take-append-drop at text)
    ∙ ap (λ (l : List ℕ). take at text ++ l) (drop_more text at 0 within))
    ∙ slice_split_at p (take at text) (get_or text at 0) (drop (at + 1) text) clear
    (eq-eqb _ _ here)
    ∙ ap (λ l. take at text ∷ slice_split p l) (sym (take_rest text (at + 1)))

-- a text has at least one piece
pub has_piece : (p : ℕ → Bool) (text : List ℕ) → 0 < length (slice_split p text)
has_piece p text = omega (arith, length-slice_split p text)

pub before_pieces : (piece : List ℕ) (pieces : List (List ℕ)) → 0 < length pieces
    → without_empty_end (piece ∷ pieces) ≡ piece ∷ without_empty_end pieces
before_pieces piece [] h = absurd (omega arith)
before_pieces piece (next ∷ pieces) h = refl

pub line_first : (text line rest : List ℕ)
    → slice_split is_line_feed text ≡ line ∷ slice_split is_line_feed rest
    → lines_of text ≡ line ∷ lines_of rest
unfolding lines_of
line_first text line rest cut =
    ap without_empty_end cut
    ∙ before_pieces line (slice_split is_line_feed rest) (has_piece is_line_feed rest)

pub line_last : (text : List ℕ) → 0 < length text → slice_split is_line_feed text ≡ text ∷ []
    → lines_of text ≡ text ∷ lines_of []
unfolding lines_of
line_last [] h cut = absurd (omega arith)
line_last (b ∷ bs) h cut = ap without_empty_end cut

onto_prefix : (x : ℕ) (parts others : List (List ℕ)) → 0 < length parts
    → onto_first x (parts ++ others) ≡ onto_first x parts ++ others
onto_prefix x [] others some = absurd (omega arith)
onto_prefix x (part ∷ parts) others some = refl

-- it is cut before and after a byte at which it is cut
pub split_append : (p : ℕ → Bool) (xs : List ℕ) (y : ℕ) (ys : List ℕ) → p y ≡ true
    → slice_split p (xs ++ y ∷ ys) ≡ slice_split p xs ++ slice_split p ys
split_append p [] y ys here = slice_split-cons_yes p y ys here
split_append p (x ∷ xs) y ys here = elim (cases_Bool (p x)) [
  | inl cuts ↦ rw cuts (ap (λ (parts : List (List ℕ)). [] ∷ parts) (split_append p xs y ys here))
  | inr keeps ↦
      rw keeps (ap (onto_first x) (split_append p xs y ys here)
      ∙ onto_prefix x (slice_split p xs) (slice_split p ys) (has_piece p xs))
]

-- ---- a line that has no line feed in it

abbrev pub is_line : List ℕ → Bool
is_line text = list_all (λ b. not (is_line_feed b)) text

pub one_piece : (text : List ℕ) → is_line text ≡ true → slice_split is_line_feed text ≡ text ∷ []
one_piece [] is = refl
one_piece (b ∷ text) is = elim (cases_Bool (is_line_feed b)) [
  | inl feed ↦ cc
  | inr other ↦ rw other (ap (onto_first b) (one_piece text cc))
]

pub both_lines : (xs ys : List ℕ) → is_line xs ≡ true → is_line ys ≡ true
    → is_line (xs ++ ys) ≡ true
both_lines xs ys a b = cc (list_all-append (λ (b : ℕ). not (is_line_feed b)) xs ys)
