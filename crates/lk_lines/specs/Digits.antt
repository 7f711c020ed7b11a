-- Definitions: the numbers that decimal digits write.
use Rattle.std.specs.Prelude.{◌+◌, List, Option, if◌then◌else◌, length, nat_lt, nat_le, slice_index}
use Rattle.std.specs.Prelude.{ℕ, ◌-◌, ◌*◌, [], ◌∷◌, Some, None, Bool, ◌==◌, ◌&&◌, ◌||◌, not}
use Rattle.std.specs.Str.{all_ascii_digits}

-- decimal digits, with no leading zero but in `0` itself
abbrev pub is_plain_number : List ℕ → Bool
is_plain_number text =
    all_ascii_digits text
    && (length text == 1 || (nat_lt 1 (length text) && not (slice_index text 0 == 48)))

-- the number that the digits write, after a number
abbrev pub value_from : ℕ → List ℕ → ℕ
value_from n [] = n
value_from n (c ∷ cs) = value_from (n * 10 + (c - 48)) cs

-- the number that the text writes, if that is of at most 64 bits
unfoldable pub whole_number : List ℕ → Option ℕ
whole_number text =
    if is_plain_number text && nat_le
    (value_from 0 text) 18446744073709551615 then Some (value_from 0 text) else None
