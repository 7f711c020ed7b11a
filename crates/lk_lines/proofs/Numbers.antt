-- The number that digits write.
use Rattle.std.proofs.Common.{◌≡◌, ℕ, ◌+◌, ◌-◌, ◌*◌, ◌<◌, ◌≤◌, List, [], ◌∷◌, length, get_or, drop}
use Rattle.std.proofs.Common.{None, arith, le_refl}
use Rattle.std.proofs.lemmas.Bool.{lt-leb, and_right, cond-false}
use Rattle.std.proofs.lemmas.List.{at_drop_more}
use Rattle.lk_lines.specs.Digits.{value_from, whole_number, is_plain_number}

-- more digits make no smaller number
value_from_least : (n : ℕ) (ds : List ℕ) → n ≤ value_from n ds
value_from_least n [] = le_refl n
value_from_least n (c ∷ cs) = omega (arith, value_from_least (n * 10 + (c - 48)) cs)

-- too much at one digit is too much at the end
pub overflows : (n i : ℕ) (ds : List ℕ) → i < length ds
    → value_from n (drop i ds) ≡ value_from 0 ds
    → 18446744073709551615 < n * 10 + (get_or ds i 0 - 48) → whole_number ds ≡ None
unfolding whole_number
overflows n i ds h same large =
    let more = n * 10 + (get_or ds i 0 - 48) in
    let too_large : 18446744073709551615 < value_from 0 ds = omega (
      arith,
      at_drop_more (value_from n) ds i 0 h,
      value_from_least more (drop (i + 1) ds),
    ) in
    cond-false _ _ _ (and_right (is_plain_number ds) _ (lt-leb _ _ too_large))
