-- An ascending list of threads as the bits of a number, and what counting bits tells of its text.
use Rattle.std.proofs.Common.{◌≡◌, ℕ, suc, ◌+◌, ◌-◌, ◌*◌, ◌^◌, ◌%◌, ◌<◌, ◌≤◌, List, [], ◌∷◌, ◌++◌}
use Rattle.std.proofs.Common.{length, decimal, count_ones, nat_lt, refl, ap, sym, ◌∙◌, take, drop}
use Rattle.std.proofs.Common.{true, false, arith, if◌then◌else◌, inl, inr, length-append, pow_pos}
use Rattle.std.proofs.Common.{pow_mono, pow-add, shl_exact}
use Rattle.std.specs.Int.Count.{ones}
use Rattle.std.specs.List.{AllByRecursion}
use Rattle.std.proofs.Math.Nat.{add-mul, pow-suc}
use Rattle.std.proofs.lemmas.Bool.{cases_Bool, ltb-true, ltb-false}
use Rattle.std.proofs.lemmas.Fmt.{decimal_digit}
use Rattle.std.proofs.lemmas.Nat.{mod-mul-add, ones_cat, ones_le_self}
use Rattle.lk_locks.proofs.Ascending.{all_with_reader, all_without_reader}
use Rattle.lk_locks.proofs.Ascending.{ascending_with_reader, ascending_without_reader}
use Rattle.lk_locks.specs.Sequential.{IsAscending, has, with_reader, without_reader}
use Rattle.lk_replay.specs.Occupancy.{AreReaders, below, bits_of, numbers_in}
use Rattle.lk_replay.specs.Report.{later_numbers}
use Rattle.lk_replay.proofs.Listing.{AreCut, cut_to_join, cut_to_leave, later_append, later_most}
use Rattle.lk_replay.proofs.Listing.{numbers_read, put_in, taken_out, two_digits}

-- ---- a list cut at a number

-- what follows from a fact of each
each : (P Q : ℕ → Type 0) → ((u : ℕ) → P u → Q u) → (xs : List ℕ) → AllByRecursion P xs
    → AllByRecursion Q xs
each P Q follows [] all = tt
each P Q follows (x ∷ xs) (here, rest) = (follows x here, each P Q follows xs rest)

-- the threads that are not below it
abbrev not_below : List ℕ → ℕ → List ℕ
not_below [] t = []
not_below (x ∷ xs) t = if nat_lt x t then not_below xs t else x ∷ xs

-- what holds of all holds of both parts
both_parts : (P : ℕ → Type 0) (xs : List ℕ) (t : ℕ) → AllByRecursion P xs
    → AllByRecursion P (below xs t) × AllByRecursion P (not_below xs t)
both_parts P [] t all = (tt, tt)
both_parts P (x ∷ xs) t (here, rest) =
    let (low, high) = both_parts P xs t rest in
    elim (cases_Bool (nat_lt x t)) [
      | inl h ↦ rw h ((here, low), high)
      | inr h ↦ rw h (tt, (here, rest))
    ]

-- the parts of an ascending list are below the number and from it on, and the first ascends
cut : (xs : List ℕ) (t : ℕ) → IsAscending xs
    → (xs ≡ below xs t ++ not_below xs t) × AllByRecursion (λ u. u < t) (below xs t)
    × AllByRecursion (λ u. t ≤ u) (not_below xs t) × IsAscending (below xs t)
cut [] t ascending = (refl, tt, tt, tt)
cut (x ∷ xs) t (above, ascending) = elim (cases_Bool (nat_lt x t)) [
  | inl h ↦
      let (whole, lower, higher, up) = cut xs t ascending in
      rw h (
        ap (λ (ys : List ℕ). x ∷ ys) whole,
        (ltb-true x t h, lower),
        higher,
        ((both_parts (λ u. x < u) xs t above).0, up),
      )
  | inr h ↦
      let least : t ≤ x = ltb-false x t h in
      let later = each (λ u. x < u) (λ u. t ≤ u) (λ u more. omega (arith, least, more)) xs above in
      rw h (refl, tt, (least, later), tt)
]

-- ---- the bits

bits_append : (xs ys : List ℕ) → bits_of (xs ++ ys) ≡ bits_of xs + bits_of ys
bits_append [] ys = omega arith
bits_append (x ∷ xs) ys = omega (arith, bits_append xs ys)

multiple : (xs : List ℕ) (t : ℕ) → AllByRecursion (λ u. t ≤ u) xs
    → (m : ℕ) × (bits_of xs ≡ m * 2 ^ t)
multiple [] t all = (0, omega arith)
multiple (x ∷ xs) t (here, rest) =
    let more = multiple xs t rest in
    let k = x - t in
    let same : x ≡ k + t = omega (arith, here) in
    let power = ap (λ (n : ℕ). 2 ^ n) same ∙ pow-add 2 k t in
    (2 ^ k + more.0, omega (arith, power, more.1, add-mul (2 ^ k) more.0 (2 ^ t)))

-- `1 << t`
shift_of_one : (t : ℕ) → t < 64 → 1 * 2 ^ t % 2 ^ 64 ≡ 2 ^ t
shift_of_one t small = shl_exact 1 t 64 (omega arith) (omega (arith, small)) ∙ omega arith

-- a thread's bit fits above those of an ascending list
room : (x : ℕ) (xs : List ℕ) (k : ℕ) → IsAscending (x ∷ xs) → AllByRecursion (λ u. u < k) (x ∷ xs)
    → bits_of (x ∷ xs) + 2 ^ x ≤ 2 ^ k
room x [] k ascending (small, rest) =
    let e : 2 ^ suc x ≤ 2 ^ k = pow_mono (omega (arith, small)) in omega (arith, e, pow-suc 2 x)
room x (y ∷ ys) k ((less, above), ascending) (small, rest) =
    let e : 2 ^ suc x ≤ 2 ^ y = pow_mono (omega (arith, less)) in
    omega (arith, e, pow-suc 2 x, room y ys k ascending rest)

bits_fit : (xs : List ℕ) (k : ℕ) → IsAscending xs → AllByRecursion (λ u. u < k) xs
    → bits_of xs < 2 ^ k
bits_fit [] k ascending all = pow_pos k
bits_fit (x ∷ xs) k ascending all = omega (arith, pow_pos x, room x xs k ascending all)

one_bit : (x : ℕ) → count_ones (2 ^ x) ≡ 1
unfolding ones
one_bit x =
    let whole : 2 ^ x ≡ 1 * 2 ^ x + 0 = omega arith in
    ap count_ones whole ∙ ones_cat x 1 0 (pow_pos x)

counted_bits : (xs : List ℕ) → IsAscending xs → count_ones (bits_of xs) ≡ length xs
counted_bits [] ascending = omega (arith, ones_le_self 0)
counted_bits (x ∷ xs) (above, ascending) =
    let more = multiple xs (suc x) above in
    let first : 2 ^ x + bits_of xs ≡ more.0 * 2 ^ suc x + 2 ^ x = omega (arith, more.1) in
    let later : bits_of xs ≡ more.0 * 2 ^ suc x + 0 = omega (arith, more.1) in
    let size : 2 ^ x < 2 ^ suc x = omega (arith, pow-suc 2 x, pow_pos x) in
    omega (
      arith,
      ap count_ones first ∙ ones_cat (suc x) more.0 (2 ^ x) size,
      ap count_ones later ∙ ones_cat (suc x) more.0 0 (pow_pos (suc x)),
      one_bit x,
      ones_le_self 0,
      counted_bits xs ascending,
    )

-- the lower bits are the lower threads
lower_bits : (xs : List ℕ) (t : ℕ) → IsAscending xs → bits_of xs % 2 ^ t ≡ bits_of (below xs t)
lower_bits xs t ascending =
    let (parts, lower, higher, up) = cut xs t ascending in
    let more = multiple (not_below xs t) t higher in
    let whole : bits_of xs ≡ more.0 * 2 ^ t + bits_of (below xs t) = omega (
      arith,
      ap bits_of parts,
      bits_append (below xs t) (not_below xs t),
      more.1,
    ) in
    ap (λ (n : ℕ). n % 2 ^ t) whole
    ∙ mod-mul-add more.0 (2 ^ t) (bits_of (below xs t)) (bits_fit (below xs t) t up lower)

-- the bit of a thread that a list is without and with
pub record IsBit (less more : List ℕ) (t : ℕ) : Type 0 where
  pub bit : bits_of more ≡ bits_of less + 1 * 2 ^ t % 2 ^ 64
  pub fits : bits_of more < 2 ^ 64

pub is_bit : (low less more : List ℕ) (t : ℕ) → AreCut low less more t → t < 64
    → IsAscending more → AllByRecursion (λ u. u < 64) more → IsBit less more t
is_bit low less more t cut small ascending fit = record {
  bit = omega (
    arith,
    shift_of_one t small,
    ap bits_of cut.with_it,
    ap bits_of cut.without,
    bits_append low (t ∷ cut.after),
    bits_append low cut.after,
  );
  fits = bits_fit more 64 ascending fit;
}

-- ---- the text

short_numbers : (xs : List ℕ) → AllByRecursion (λ u. u < 10) xs
    → length (later_numbers xs) ≡ 2 * length xs
short_numbers [] all = refl
short_numbers (x ∷ xs) (here, rest) =
    omega (
      arith,
      short_numbers xs rest,
      ap length (decimal_digit x here),
      length-append (decimal x) (later_numbers xs),
    )

long_numbers : (xs : List ℕ) → AllByRecursion (λ u. 10 ≤ u) xs → AllByRecursion (λ u. u < 64) xs
    → length (later_numbers xs) ≡ 3 * length xs
long_numbers [] long all = refl
long_numbers (x ∷ xs) (long, longer) (here, rest) =
    omega (
      arith,
      long_numbers xs longer rest,
      ap length (two_digits x long (omega (arith, here))),
      length-append (decimal x) (later_numbers xs),
    )

text_size : (xs : List ℕ) → IsAscending xs → AllByRecursion (λ u. u < 64) xs
    → length (later_numbers xs) + length (below xs 10) ≡ 3 * length xs
text_size xs ascending fit =
    let low = below xs 10 in
    let high = not_below xs 10 in
    let (parts, lower, higher, up) = cut xs 10 ascending in
    omega (
      arith,
      ap length parts,
      ap (λ (ys : List ℕ). length (later_numbers ys)) parts,
      ap length (later_append low high),
      length-append {A = ℕ},
      short_numbers low lower,
      long_numbers high higher (both_parts (λ u. u < 64) xs 10 fit).1,
    )

-- where a thread's number is, by counts of bits
pub counted_place : (xs : List ℕ) (bits t : ℕ) → bits ≡ bits_of xs → IsAscending xs
    → AllByRecursion (λ u. u < 64) xs → t < 64
    → let lower : ℕ = bits % (1 * 2 ^ t % 2 ^ 64) in
    length (later_numbers (below xs t)) + count_ones (lower % 1024) ≡ 3 * count_ones lower
counted_place xs bits t is ascending fit small =
    let low = below xs t in
    let (parts, lower, higher, up) = cut xs t ascending in
    let same =
    ap (λ (k : ℕ). bits % k) (shift_of_one t small) ∙ ap (λ (n : ℕ). n % 2 ^ t) is
    ∙ lower_bits xs t ascending in
    omega (
      arith,
      ap count_ones same ∙ counted_bits low up,
      ap (λ (n : ℕ). count_ones (n % 1024)) same ∙ ap count_ones (lower_bits low 10 up)
          ∙ counted_bits (below low 10) (cut low 10 up).3,
      text_size low up (both_parts (λ u. u < 64) xs t fit).0,
    )

-- ---- the text and the bits together

pub are_readers : (xs text : List ℕ) (bits : ℕ) → text ≡ later_numbers xs → bits ≡ bits_of xs
    → IsAscending xs → AllByRecursion (λ u. u < 64) xs
    → AreReaders text bits × (numbers_in text ≡ xs)
are_readers xs text bits is bits_are ascending fit =
    let same : numbers_in text ≡ xs = ap numbers_in is ∙ numbers_read xs fit in (
      record {
        listed = is ∙ ap later_numbers (sym same);
        fit = rw same fit;
        ascending = rw same ascending;
        bits_are = bits_are ∙ ap bits_of (sym same);
      },
      same,
    )

-- the readers after a thread joined
pub record Joins (now text : List ℕ) (bits t at : ℕ) : Type 0 where
  pub within : at ≤ length text
  pub room : length text + 4 ≤ 320
  pub fits : bits + 1 * 2 ^ t % 2 ^ 64 < 2 ^ 64
  pub after : (new : List ℕ) (more : ℕ) → new ≡ (take at text ++ (44 ∷ decimal t)) ++ drop at text
      → more ≡ bits + 1 * 2 ^ t % 2 ^ 64
      → AreReaders new more × (numbers_in new ≡ with_reader now t)

pub reader_joins : (now text : List ℕ) (bits t at : ℕ) → AreReaders text bits
    → numbers_in text ≡ now → has now t ≡ false → t < 64 → length now < 64
    → at ≡ length (later_numbers (below now t)) → Joins now text bits t at
reader_joins now text bits t at readers is absent small few place =
    let listed : text ≡ later_numbers now = readers.listed ∙ ap later_numbers is in
    let fit : AllByRecursion (λ u. u < 64) now = rw (← is) readers.fit in
    let ascending : IsAscending now = rw (← is) readers.ascending in
    let bits_are : bits ≡ bits_of now = readers.bits_are ∙ ap bits_of is in
    let cut = cut_to_join now t absent in
    let put = put_in (below now t) now (with_reader now t) text t at cut listed place in
    let all = all_with_reader (λ u. u < 64) now t small fit in
    let up = ascending_with_reader now t ascending absent in
    let one = is_bit (below now t) now (with_reader now t) t cut small up all in
    record {
      within = put.within;
      room = omega (arith, ap length listed, later_most now fit, few);
      fits = omega (arith, bits_are, one.bit, one.fits);
      after = λ new more new_is more_is.
          are_readers (with_reader now t) new more (new_is ∙ put.whole)
          (omega (arith, more_is, bits_are, one.bit)) up all;
    }

-- the readers after a thread left
pub record Leaves (now text : List ℕ) (bits t at gone : ℕ) : Type 0 where
  pub within : at + gone ≤ length text
  pub fits : 1 * 2 ^ t % 2 ^ 64 ≤ bits
  pub after : (new : List ℕ) (less : ℕ) → new ≡ take at text ++ drop (at + gone) text
      → less ≡ bits - 1 * 2 ^ t % 2 ^ 64
      → AreReaders new less × (numbers_in new ≡ without_reader now t)

pub reader_leaves : (now text : List ℕ) (bits t at gone : ℕ) → AreReaders text bits
    → numbers_in text ≡ now → has now t ≡ true → t < 64
    → at ≡ length (later_numbers (below now t)) → gone ≡ length (decimal t) + 1
    → Leaves now text bits t at gone
reader_leaves now text bits t at gone readers is present small place wide =
    let listed : text ≡ later_numbers now = readers.listed ∙ ap later_numbers is in
    let fit : AllByRecursion (λ u. u < 64) now = rw (← is) readers.fit in
    let ascending : IsAscending now = rw (← is) readers.ascending in
    let bits_are : bits ≡ bits_of now = readers.bits_are ∙ ap bits_of is in
    let cut = cut_to_leave now t ascending present in
    let taken =
    taken_out (below now t) (without_reader now t) now text t at gone cut listed place wide in
    let one = is_bit (below now t) (without_reader now t) now t cut small ascending fit in
    record {
      within = taken.within;
      fits = omega (arith, bits_are, one.bit);
      after = λ new less new_is less_is.
          are_readers (without_reader now t) new less (new_is ∙ taken.rest)
          (omega (arith, less_is, bits_are, one.bit))
          (ascending_without_reader now t ascending) (all_without_reader (λ u. u < 64) now t fit);
    }
