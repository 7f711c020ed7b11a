-- A text at the front of an array, edited in place.
use Rattle.std.proofs.Common.{◌≡◌, ℕ, ◌+◌, ◌-◌, ◌<◌, ◌≤◌, List, ◌++◌, length, take, drop}
use Rattle.std.proofs.Common.{sym, ap, ◌∙◌, arith, length-append, length-drop, length-take-le}
use Rattle.std.proofs.Common.{append_assoc, take-append-drop, take_all}
use Rattle.std.proofs.Math.Seq.{take-append-add}
use Rattle.std.proofs.lemmas.List.{drop-take, drop_at, take-append-le, take-take}
use lib.Seq.{paste, take-paste}
use borrow.Rule.Slice.PartMut.{put_mid, post_of, Post-is}

-- the first bytes of what was written, after those before it
pub written_after : (xs now post : List ℕ) (at len : ℕ) → at ≤ length xs → len ≤ length now
    → take (at + len) (take at xs ++ (now ++ post)) ≡ take at xs ++ take len now
written_after xs now post at len within fits =
    let prefix : length (take at xs) ≡ at = length-take-le at xs within in
    ap (λ (k : ℕ). take (k + len) (take at xs ++ (now ++ post))) (sym prefix)
    ∙ take-append-add (take at xs) (now ++ post) len
    ∙ ap (λ (ys : List ℕ). take at xs ++ ys) (take-append-le len now post fits)

-- the same of a block, of which `wide` bytes were copied
pub block_pushed : (xs now block : List ℕ) (at len wide : ℕ) → now ≡ take wide block
    → wide ≤ length block → len ≤ wide → at ≤ length xs
    → take (at + len) (put_mid at (at + wide - at) xs now) ≡ take at xs ++ take len block
block_pushed xs now block at len wide is size fits within =
    let copied = length-take-le wide block size in
    rw is (written_after xs (take wide block) (post_of at (at + wide - at) xs) at len within
    (omega (arith, copied, fits)))
    ∙ ap (λ (ys : List ℕ). take at xs ++ ys) (take-take len wide block fits)

-- digits that were written after those before them
pub digits_written : (xs now digits : List ℕ) (from at wide : ℕ) → from ≡ at → wide ≡ length digits
    → at ≤ length xs → take from now ≡ take from xs
    → drop from now ≡ digits ++ drop (at + wide) xs → take (at + wide) now ≡ take at xs ++ digits
digits_written xs now digits from at wide start size within before is =
    let post = drop (at + wide) xs in
    let whole : now ≡ take at xs ++ (digits ++ post) = cc (take-append-drop from now) in
    rw (whole, written_after xs digits post at wide within (omega arith))
    (ap (λ (ys : List ℕ). take at xs ++ ys) (take_all wide digits (omega arith)))

-- a text without its first byte, of which `wide` bytes were copied
pub rest_put : (place now bytes text : List ℕ) (at len wide : ℕ) → now ≡ take wide (drop 1 bytes)
    → wide < length bytes → len ≤ length bytes → len - 1 ≤ wide → at ≤ length place
    → 0 < length text → take len bytes ≡ text
    → take (at + (len - 1)) (put_mid at (at + wide - at) place now) ≡ take at place ++ drop 1 text
rest_put place now bytes text at len wide is most fit fits within some whole =
    let all : 1 + (len - 1) ≡ len = omega (arith, ap length whole, length-take-le len bytes fit) in
    block_pushed place now (drop 1 bytes) at (len - 1) wide is
    (omega (arith, most, length-drop 1 bytes)) fits within
    ∙ ap (λ (ys : List ℕ). take at place ++ ys)
    (sym (drop-take 1 (len - 1) bytes) ∙ ap (λ (k : ℕ). drop 1 (take k bytes)) all
    ∙ ap (drop 1) whole)

-- bytes taken out
pub text_taken_out : (xs now : List ℕ) (at count len : ℕ) → at + count ≤ len → len ≤ length xs
    → now ≡ paste xs at (drop (at + count) xs) (len - (at + count))
    → take (len - count) now ≡ take at (take len xs) ++ drop (at + count) (take len xs)
text_taken_out xs now at count len within most is =
    let n = len - (at + count) in
    let place : len - count ≡ at + n = omega arith in
    let whole : at + count + n ≡ len = omega arith in
    let pasted =
    take-paste xs at (drop (at + count) xs) n (omega arith)
    (omega (arith, length-drop (at + count) xs)) in
    rw (is, place, pasted, take-take at len xs (omega arith))
    (ap (λ (ys : List ℕ). take at xs ++ ys) (sym (drop-take (at + count) n xs)
    ∙ ap (λ (k : ℕ). drop (at + count) (take k xs)) whole))

-- bytes put in
pub text_put_in : (xs moved now text : List ℕ) (at wide len : ℕ) → at ≤ len → len + wide ≤ length xs
    → length text ≡ wide → now ≡ text
    → moved ≡ paste xs (at + wide) (drop at xs) (len - at)
    → take (len + wide) (put_mid at (at + wide - at) moved now)
    ≡ (take at (take len xs) ++ text) ++ drop at (take len xs)
text_put_in xs moved now text at wide len within most size is after =
    let n = len - at in
    let k = at + wide in
    let before = take k xs in
    let rest = take n (drop at xs) in
    let front = take at xs ++ text in
    let whole =
    ap (take (k + n)) after
    ∙ take-paste xs k (drop at xs) n (omega arith) (omega (arith, length-drop at xs)) in
    let before_size = length-take-le k xs (omega arith) in
    let prefix =
    sym (take-take at (k + n) moved (omega arith)) ∙ ap (take at) whole
    ∙ take-append-le at before rest (omega arith) ∙ take-take at k xs (omega arith) in
    let behind =
    sym (drop-take k n moved) ∙ ap (drop k) whole ∙ drop_at before rest k before_size in
    let place : len + wide ≡ length front + n =
    omega (arith, length-append (take at xs) text, length-take-le at xs (omega arith)) in
    let total : at + n ≡ len = omega arith in
    let same = sym (drop-take at n xs) ∙ ap (λ (m : ℕ). drop at (take m xs)) total in
    rw (
      is,
      prefix,
      Post-is at k moved (omega arith),
      ← append_assoc (take at xs) text (drop k moved),
      place,
      take-append-add front (drop k moved) n,
      take-take at len xs within,
    )
    (ap (λ (ys : List ℕ). front ++ ys) (behind ∙ same))
