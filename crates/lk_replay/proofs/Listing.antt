-- The text of a list of threads that one joins or leaves.
use Rattle.std.proofs.Common.{◌≡◌, ℕ, ◌+◌, ◌*◌, ◌/◌, ◌%◌, ◌<◌, ◌≤◌, List, [], ◌∷◌, ◌++◌, length}
use Rattle.std.proofs.Common.{drop, decimal, eqb, nat_lt, true, false, refl, sym, ap, take, ◌∙◌}
use Rattle.std.proofs.Common.{arith, append_assoc, append-nil, length-append, inl, inr}
use Rattle.std.specs.List.{AllByRecursion}
use Rattle.std.proofs.lemmas.List.{drop_at, take_at}
use Rattle.std.proofs.lemmas.Bool.{cases_Bool, eqb-true, le-ltb, lt-ltb, ltb-false, or_parts}
use Rattle.std.proofs.lemmas.Bool.{ltb-true, ne_eqb}
use Rattle.std.proofs.lemmas.Bool.Decides.{nat_tests}
use Rattle.std.proofs.lemmas.Fmt.{decimal_digit, decimal_step, length-decimal-le}
use Rattle.lk_locks.specs.Sequential.{IsAscending, has, is_head, with_reader, without_reader}
use Rattle.lk_locks.proofs.Ascending.{below_member}
use Rattle.std.proofs.lemmas.Grind.{flat_map-append}
use Rattle.lk_replay.specs.Occupancy.{IsQueue, below, numbers_from, numbers_in}
use Rattle.lk_replay.specs.Report.{later_numbers, queue_text}

pub later_append : (xs ys : List ℕ)
    → later_numbers (xs ++ ys) ≡ later_numbers xs ++ later_numbers ys
later_append xs ys = flat_map-append (λ (n : ℕ). 44 ∷ decimal n) xs ys

abbrev pub AreThreads : List ℕ → Type 0
AreThreads xs = AllByRecursion (λ t. t < 64) xs

-- each number has at most three digits and a comma
pub later_most : (xs : List ℕ) → AreThreads xs → length (later_numbers xs) ≤ 4 * length xs
later_most [] a = omega arith
later_most (x ∷ xs) (b, a) =
    omega (
      arith,
      later_most xs a,
      length-decimal-le 3 x (omega arith) (omega (arith, b)) (omega (arith, b)),
      length-append (decimal x) (later_numbers xs),
    )

-- ---- the numbers of a text

pub two_digits : (n : ℕ) → 10 ≤ n → n < 100 → decimal n ≡ (48 + n / 10) ∷ (48 + n % 10) ∷ []
two_digits n a b =
    decimal_step n a (omega arith)
    ∙ ap (λ (ds : List ℕ). ds ++ (48 + n % 10) ∷ []) (decimal_digit (n / 10) (omega arith))

-- one more digit, which is no comma
digit_read : (n d : ℕ) (rest : List ℕ)
    → numbers_from n ((48 + d) ∷ rest) ≡ numbers_from (n * 10 + d) rest
digit_read n d rest =
    rw (ne_eqb (48 + d) 44 (λ is. omega (arith, is)))
    (ap (λ (m : ℕ). numbers_from m rest) (omega arith))

-- the digits of a thread's number
number_read : (x : ℕ) (rest : List ℕ) → x < 64
    → numbers_from 0 (decimal x ++ rest) ≡ numbers_from x rest
number_read x rest small = elim (cases_Bool (nat_lt x 10)) [
  | inl low ↦
      ap (λ (ds : List ℕ). numbers_from 0 (ds ++ rest)) (decimal_digit x (ltb-true x 10 low))
      ∙ digit_read 0 x rest ∙ ap (λ (m : ℕ). numbers_from m rest) (omega arith)
  | inr high ↦
      ap (λ (ds : List ℕ). numbers_from 0 (ds ++ rest))
      (two_digits x (ltb-false x 10 high) (omega (arith, small)))
      ∙ digit_read 0 (x / 10) ((48 + x % 10) ∷ rest) ∙ digit_read (0 * 10 + x / 10) (x % 10) rest
      ∙ ap (λ (m : ℕ). numbers_from m rest) (omega arith)
]

more_read : (x : ℕ) (xs : List ℕ) → AreThreads xs
    → numbers_from x (later_numbers xs) ≡ x ∷ xs
more_read x [] all = refl
more_read x (y ∷ ys) (small, all) =
    ap (λ (ns : List ℕ). x ∷ ns) (number_read y (later_numbers ys) small ∙ more_read y ys all)

-- the numbers of a list's text are the list
pub numbers_read : (xs : List ℕ) → AreThreads xs → numbers_in (later_numbers xs) ≡ xs
numbers_read [] all = refl
numbers_read (x ∷ xs) (small, all) = number_read x (later_numbers xs) small ∙ more_read x xs all

-- ---- a queue

pub is_queue : (xs text : List ℕ) → text ≡ later_numbers xs → AreThreads xs
    → IsQueue text × (numbers_in text ≡ xs)
is_queue xs text is all =
    let same : numbers_in text ≡ xs = ap numbers_in is ∙ numbers_read xs all in
    (record { listed = is ∙ ap later_numbers (sym same); fit = rw same all }, same)

all_more : (xs : List ℕ) (t : ℕ) → AreThreads xs → t < 64 → AreThreads (xs ++ t ∷ [])
all_more [] t all small = (small, tt)
all_more (x ∷ xs) t (here, rest) small = (here, all_more xs t rest small)

all_rest : (xs : List ℕ) → AreThreads xs → AreThreads (drop 1 xs)
all_rest [] all = all
all_rest (x ∷ xs) (here, rest) = rest

-- a thread came last
pub request_came : (text new : List ℕ) (t : ℕ) → IsQueue text → t < 64
    → new ≡ text ++ (44 ∷ decimal t)
    → IsQueue new × (numbers_in new ≡ numbers_in text ++ t ∷ [])
request_came text new t q small is =
    let xs = numbers_in text in
    is_queue (xs ++ t ∷ []) new
    (is ∙ ap (λ (ys : List ℕ). ys ++ (44 ∷ decimal t)) q.listed
    ∙ ap (λ (ys : List ℕ). later_numbers xs ++ ys) (sym (append-nil (44 ∷ decimal t)))
    ∙ sym (later_append xs (t ∷ [])))
    (all_more xs t q.fit small)

-- the head is first, and the rest is left
pub record IsHeadText (text : List ℕ) (gone : ℕ) : Type 0 where
  pub within : gone ≤ length text
  pub queue : IsQueue (drop gone text)
  pub rest : numbers_in (drop gone text) ≡ drop 1 (numbers_in text)

head_text : (xs text : List ℕ) (t gone : ℕ) → is_head xs t ≡ true → text ≡ later_numbers xs
    → gone ≡ length (decimal t) + 1
    → (gone ≤ length text) × (drop gone text ≡ later_numbers (drop 1 xs))
head_text [] text t gone head is wide = cc
head_text (x ∷ xs) text t gone head is wide =
    let same = ap (λ (y : ℕ). length (decimal y)) (eqb-true t x head) in
    let place : length (44 ∷ decimal x) ≡ gone = omega arith in
    rw is (
      omega (arith, place, length-append (decimal x) (later_numbers xs)),
      drop_at (44 ∷ decimal x) (later_numbers xs) gone place,
    )

pub head_left : (text : List ℕ) (t gone : ℕ) → IsQueue text → is_head (numbers_in text) t ≡ true
    → gone ≡ length (decimal t) + 1 → IsHeadText text gone
head_left text t gone q head wide =
    let xs = numbers_in text in
    let (within, is) = head_text xs text t gone head q.listed wide in
    let (queue, rest) = is_queue (drop 1 xs) (drop gone text) is (all_rest xs q.fit) in
    record { within = within; queue = queue; rest = rest }

-- ---- a list of readers, without a thread and with it

-- both lists are cut where the thread's place is
pub record AreCut (low less more : List ℕ) (t : ℕ) : Type 0 where
  pub after : List ℕ
  pub without : less ≡ low ++ after
  pub with_it : more ≡ low ++ t ∷ after

pub cut_to_leave : (xs : List ℕ) (t : ℕ) → IsAscending xs → has xs t ≡ true
    → AreCut (below xs t) (without_reader xs t) xs t
cut_to_leave [] t a h = cc
cut_to_leave (x ∷ xs) t (b, a) h = elim (cases_Bool (eqb t x)) [
  | inl e ↦ let same : t ≡ x = eqb-true t x e in
      let low : nat_lt x t ≡ false = le-ltb x t (omega (arith, same)) in
      rw (e, low)
      (record { after = xs; without = refl; with_it = ap (λ (y : ℕ). y ∷ xs) (sym same) })
  | inr e ↦ let g : has (x ∷ xs) t ≡ true = h in
      let cut = cut_to_leave xs t a (rw e at g) in
      let high : nat_lt x t ≡ true = lt-ltb x t (below_member xs x t b (rw e at g)) in
      rw (e, high) (record {
        after = cut.after;
        without = ap (λ (ys : List ℕ). x ∷ ys) cut.without;
        with_it = ap (λ (ys : List ℕ). x ∷ ys) cut.with_it;
      })
]

pub cut_to_join : (xs : List ℕ) (t : ℕ) → has xs t ≡ false
    → AreCut (below xs t) xs (with_reader xs t) t
cut_to_join [] t absent = record { after = []; without = refl; with_it = refl }
cut_to_join (x ∷ xs) t absent =
    let (differ, others) = or_parts (eqb t x) (has xs t) absent in
    elim (cases_Bool (nat_lt x t)) [
      | inl low ↦ let less : x < t = ltb-true x t low in
          let cut = cut_to_join xs t others in
          rw (low, le-ltb t x (omega (arith, less))) (record {
            after = cut.after;
            without = ap (λ (ys : List ℕ). x ∷ ys) cut.without;
            with_it = ap (λ (ys : List ℕ). x ∷ ys) cut.with_it;
          })
      | inr high ↦ let less : t < x = grind (arith, nat_tests, high, differ) in
          rw (high, lt-ltb t x less)
          (record { after = x ∷ xs; without = refl; with_it = refl })
    ]

-- the number is put in after the text of the threads below
pub record IsPutIn (text more : List ℕ) (t at : ℕ) : Type 0 where
  pub within : at ≤ length text
  pub whole : (take at text ++ (44 ∷ decimal t)) ++ drop at text ≡ later_numbers more

pub put_in : (low less more text : List ℕ) (t at : ℕ) → AreCut low less more t
    → text ≡ later_numbers less → at ≡ length (later_numbers low) → IsPutIn text more t at
put_in low less more text t at cut is place =
    let first = later_numbers low in
    let rest = later_numbers cut.after in
    let parts : text ≡ first ++ rest =
    is ∙ ap later_numbers cut.without ∙ later_append low cut.after in
    record {
      within = omega (arith, place, ap length parts, length-append first rest);
      whole =
          rw (parts, take_at first rest at (sym place), drop_at first rest at (sym place))
          (append_assoc first (44 ∷ decimal t) rest
          ∙ sym (ap later_numbers cut.with_it ∙ later_append low (t ∷ cut.after)));
    }

-- the number is taken out there
pub record IsTakenOut (text less : List ℕ) (at gone : ℕ) : Type 0 where
  pub within : at + gone ≤ length text
  pub rest : take at text ++ drop (at + gone) text ≡ later_numbers less

pub taken_out : (low less more text : List ℕ) (t at gone : ℕ) → AreCut low less more t
    → text ≡ later_numbers more → at ≡ length (later_numbers low)
    → gone ≡ length (decimal t) + 1 → IsTakenOut text less at gone
taken_out low less more text t at gone cut is place wide =
    let first = later_numbers low in
    let rest = later_numbers cut.after in
    let number : List ℕ = 44 ∷ decimal t in
    let end : length (first ++ number) ≡ at + gone =
    omega (arith, place, wide, length-append first number) in
    let whole : text ≡ (first ++ number) ++ rest =
    is ∙ ap later_numbers cut.with_it ∙ later_append low (t ∷ cut.after)
    ∙ sym (append_assoc first number rest) in
    record {
      within = omega (arith, end, ap length whole, length-append (first ++ number) rest);
      rest =
          rw (
            whole,
            drop_at (first ++ number) rest (at + gone) end,
            append_assoc first number rest,
            take_at first (number ++ rest) at (sym place),
          )
          (sym (ap later_numbers cut.without ∙ later_append low cut.after));
    }

-- ---- the lists as they are shown

pub none_listed : (text : List ℕ) → length text ≡ 0 → numbers_in text ≡ []
none_listed [] none = refl
none_listed (c ∷ cs) none = absurd (omega (arith, none))

pub queue_shown : (xs text : List ℕ) → text ≡ later_numbers xs → 0 < length text
    → drop 1 text ≡ queue_text xs
queue_shown [] text is some = absurd (omega (arith, ap length is))
queue_shown (x ∷ xs) text is some = ap (drop 1) is
