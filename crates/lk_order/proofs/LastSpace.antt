-- A text is cut at its last space.
use Rattle.std.proofs.Common.{◌≡◌, ◌≢◌, ℕ, ◌+◌, ◌<◌, ◌≤◌, List, [], ◌∷◌, ◌++◌, Some, None, length}
use Rattle.std.proofs.Common.{take, drop, get_or, refl, sym, ap, ◌∙◌, subst, arith}
use Rattle.std.specs.List.{All}
use Rattle.std.proofs.lemmas.Bool.{cond-false, ne_eqb}
use Rattle.std.proofs.lemmas.List.{take-append-drop, drop_more, get_or-drop, length-drop}
use Rattle.std.proofs.lemmas.List.Elements.{All-head, All-tail, All-from_get_or}
use Rattle.lk_order.specs.Logs.{cut_last, with_first}

abbrev pub NoSpace : ℕ → Type 0
NoSpace b = b ≢ 32

pub cut_last_none : (xs : List ℕ) → All NoSpace xs → cut_last xs ≡ None
unfolding cut_last
cut_last_none [] none = refl
cut_last_none (x ∷ xs) none =
    ap (with_first x xs) (cut_last_none xs (All-tail NoSpace x xs none))
    ∙ cond-false _ _ _ (ne_eqb x 32 (All-head NoSpace x xs none))

cut_last_at : (xs ys : List ℕ) → All NoSpace ys → cut_last (xs ++ 32 ∷ ys) ≡ Some (xs, ys)
unfolding cut_last
cut_last_at [] ys none = ap (with_first 32 ys) (cut_last_none ys none)
cut_last_at (x ∷ xs) ys none = ap (with_first x (xs ++ 32 ∷ ys)) (cut_last_at xs ys none)

-- a text is its front, the byte at i and the rest
split_around : (xs : List ℕ) (i : ℕ) → i < length xs → get_or xs i 0 ≡ 32
    → xs ≡ take i xs ++ 32 ∷ drop (i + 1) xs
split_around xs i inside here =
    sym (take-append-drop i xs)
    ∙ ap (λ l. take i xs ++ l) (drop_more xs i 0 inside ∙ ap (λ b. b ∷ drop (i + 1) xs) here)

all_after : (xs : List ℕ) (i : ℕ) → ((k : ℕ) → i ≤ k → k < length xs → NoSpace (get_or xs k 0))
    → All NoSpace (drop i xs)
all_after xs i reads =
    All-from_get_or NoSpace (drop i xs) 0 (λ k inside. subst NoSpace (sym (get_or-drop i xs k 0))
    (reads (i + k) (omega arith) (omega (arith, length-drop i xs))))

pub cut_last_at_last : (xs : List ℕ) (i : ℕ) → i < length xs → get_or xs i 0 ≡ 32
    → ((k : ℕ) → i + 1 ≤ k → k < length xs → NoSpace (get_or xs k 0))
    → cut_last xs ≡ Some (take i xs, drop (i + 1) xs)
cut_last_at_last xs i inside here behind =
    ap cut_last (split_around xs i inside here) ∙ cut_last_at _ _ (all_after xs (i + 1) behind)
