-- A line keeps its first bytes.
use Rattle.std.proofs.Common.{◌≡◌, ℕ, ◌-◌, ◌≤◌, zero, suc, min, List, [], ◌∷◌, ◌++◌, length, take}
use Rattle.std.proofs.Common.{ap, ◌∙◌, arith}
use Rattle.std.proofs.lemmas.List.{take_min}

pub keeps : (n : ℕ) (xs ys : List ℕ) (taken : ℕ) → length xs ≤ n
    → taken ≡ min (length ys) (n - length xs) → xs ++ take taken ys ≡ take n (xs ++ ys)
keeps n [] ys taken room is = ap (λ k. take k ys) (is ∙ omega arith) ∙ take_min n ys
keeps zero (x ∷ xs) ys taken room is = absurd (omega arith)
keeps (suc n) (x ∷ xs) ys taken room is =
    ap (λ l. x ∷ l) (keeps n xs ys taken (omega arith) (is ∙ omega arith))
