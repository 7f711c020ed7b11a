-- The part of a text that is in the room, as the text grows.
use Rattle.std.proofs.Common.{◌≡◌, ◌≤◌, ℕ, ◌+◌, ◌-◌, List, [], ◌++◌, length, take, drop, min, ap}
use Rattle.std.proofs.Common.{◌<◌, ◌⊎◌, sym, ◌∙◌, refl, arith, append_assoc, append-nil}
use Rattle.std.proofs.Common.{inl, inr, length-append, length-drop, length-take-le, take_all}
use Rattle.std.proofs.Math.Seq.{drop-append-add, take-append-add}
use Rattle.std.proofs.lemmas.Bool.{cases_lt}
use Rattle.std.proofs.lemmas.List.{drop-append-le, drop-drop, drop_all, drop_min, take-append-le}
use Rattle.std.proofs.lemmas.List.{take_at}
use borrow.Rule.Slice.PartMut.{put_mid, post_of, Post-is}
use Rattle.lk_replay.specs.Part.{part_size, with_part}

-- bytes are copied behind `to` others, as many as fit
pub copied : (old bytes now : List ℕ) (to count : ℕ) → to ≤ length old
    → count ≡ min (length bytes) (length old - to) → now ≡ take count bytes
    → put_mid to (to + count - to) old now
    ≡ take to old ++ (take (length old - to) bytes ++ drop (to + length bytes) old)
copied old bytes now to count within is e = elim (cases_lt (length bytes) (length old - to)) [
  | inl h ↦
      let n : count ≡ length bytes = omega arith in
      rw (
        e,
        Post-is to (to + count) old (omega arith),
        n,
        take_all (length bytes) bytes (omega arith),
        take_all (length old - to) bytes (omega arith),
      )
      refl
  | inr h ↦
      let n : count ≡ length old - to = omega arith in
      rw (
        e,
        Post-is to (to + count) old (omega arith),
        drop_all (to + count) old (omega arith),
        drop_all (to + length bytes) old (omega arith),
        n,
      )
      refl
]

-- a text from place `skip` on, if it grows
drop_more : (skip : ℕ) (text bytes : List ℕ)
    → drop skip (text ++ bytes) ≡ drop skip text ++ drop (skip - length text) bytes
drop_more skip text bytes = elim (cases_lt skip (length text)) [
  | inl h ↦
      let none : skip - length text ≡ 0 = omega arith in
      drop-append-le skip text bytes (omega arith) ∙ rw none refl
  | inr h ↦
      let more : length text + (skip - length text) ≡ skip = omega arith in
      ap (λ (n : ℕ). drop n (text ++ bytes)) (sym more)
      ∙ drop-append-add text bytes (skip - length text)
      ∙ rw (drop_all skip text h) refl
]

-- bytes that are copied behind those that there are
joined : (first part bytes old : List ℕ) (to : ℕ)
    → old ≡ take (length first) part ++ drop (length part) first
    → to ≡ min (length part) (length old)
    → take to old ++ (take (length old - to) bytes ++ drop (to + length bytes) old)
    ≡ take (length first) (part ++ bytes) ++ drop (length part + length bytes) first
joined first part bytes old to is front = elim (cases_lt (length part) (length first)) [
  | inl h ↦
      let d = length part in
      let rest = drop d first in
      let same : old ≡ part ++ rest =
      is ∙ ap (λ (xs : List ℕ). xs ++ rest) (take_all (length first) part (omega arith)) in
      let size : length old ≡ length first =
      omega (arith, ap length same, length-append part rest, length-drop d first) in
      let at : to ≡ d = omega arith in
      let whole : d + (length first - d) ≡ length first = omega arith in
      rw (size, at, same)
      (rw (
        take_at part rest d refl,
        drop-append-add part rest (length bytes),
        drop-drop (length bytes) d first,
      )
      (sym (append_assoc part (take (length first - d) bytes) (drop (d + length bytes) first))
      ∙ ap (λ (xs : List ℕ). xs ++ drop (d + length bytes) first)
      (sym (take-append-add part bytes (length first - d))
      ∙ ap (λ (n : ℕ). take n (part ++ bytes)) whole)))
  | inr h ↦
      let all = length first in
      let same : old ≡ take all part =
      is ∙ ap (λ (xs : List ℕ). take all part ++ xs) (drop_all (length part) first h)
      ∙ append-nil (take all part) in
      let size : length old ≡ all = omega (arith, ap length same, length-take-le all part h) in
      let at : to ≡ length old = omega arith in
      let none : length old - length old ≡ 0 = omega arith in
      rw (
        at,
        none,
        take_all (length old) old (omega arith),
        drop_all (length old + length bytes) old (omega arith),
        drop_all (length part + length bytes) first (omega arith),
        take-append-le all part bytes h,
      )
      (ap (λ (xs : List ℕ). xs ++ []) same)
]

-- the next bytes of a text are added to its part
pub part_grows : (first text bytes old new : List ℕ) (skip at to from : ℕ)
    → length text ≡ at → old ≡ with_part first skip text
    → to ≡ min (at - skip) (length old) → from ≡ min (skip - at) (length bytes)
    → new ≡ take to old ++ (take (length old - to) (drop from bytes)
    ++ drop (to + length (drop from bytes)) old)
    → new ≡ with_part first skip (text ++ bytes)
part_grows first text bytes old new skip at to from size is to_is from_is copied =
    let part = drop skip text in
    let more = drop from bytes in
    let part_size : length part ≡ length text - skip = length-drop skip text in
    let left : more ≡ drop (skip - length text) bytes =
    ap (λ (n : ℕ). drop n bytes) from_is ∙ drop_min (skip - at) bytes
    ∙ ap (λ (n : ℕ). drop (skip - n) bytes) (sym size) in
    let long : length part + length more ≡ length (text ++ bytes) - skip =
    omega (arith, length-append text bytes, length-drop from bytes, part_size) in
    copied
    ∙ joined first part more old to
    (is ∙ ap (λ (n : ℕ). take (length first) part ++ drop n first) (sym part_size))
    (omega (arith, to_is, part_size, size))
    ∙ ap (λ (n : ℕ). take (length first) (part ++ more) ++ drop n first) long
    ∙ ap (λ (xs : List ℕ). take (length first) xs ++ drop (length (text ++ bytes) - skip) first)
    (ap (λ (xs : List ℕ). part ++ xs) left ∙ sym (drop_more skip text bytes))

-- room that is full stays as it is
pub full_room : (first text rest : List ℕ) (skip : ℕ) → length first ≤ length text - skip
    → with_part first skip text ≡ with_part first skip (text ++ rest)
full_room first text rest skip full =
    let part = drop skip text in
    let size = length-drop skip text in
    rw (
      drop_more skip text rest,
      take-append-le (length first) part (drop (skip - length text) rest) (omega (arith, size)),
      drop_all (length text - skip) first full,
      drop_all (length (text ++ rest) - skip) first
          (omega (arith, length-append text rest)),
    )
    refl

-- ---- the lines are added one after another

-- `rest` is left of a text. The part of what came before, `at` bytes, is in the room
pub record IsPrinted (whole rest first : List ℕ) (skip at : ℕ) (room : List ℕ) : Type 0 where
  pub text : List ℕ
  pub parts : whole ≡ text ++ rest
  pub size : length text ≡ at
  pub part : room ≡ with_part first skip text

-- before the first byte of a text
pub no_part : (first : List ℕ) (skip : ℕ) → first ≡ with_part first skip []
no_part first skip =
    let none : drop {A = ℕ} skip [] ≡ [] = drop_all skip [] (omega arith) in
    let before : 0 - skip ≡ 0 = omega arith in
    sym (rw (none, take_all {A = ℕ} (length first) [] (omega arith), before) refl)

-- one line more
pub line_added : (whole rest line more first old new : List ℕ) (skip at next : ℕ)
    → IsPrinted whole rest first skip at old → rest ≡ line ++ more → next ≡ at + length line
    → ((first text : List ℕ) → length text ≡ at → old ≡ with_part first skip text
    → new ≡ with_part first skip (text ++ line))
    → IsPrinted whole more first skip next new
line_added whole rest line more first old new skip at next p is count adds = record {
  text = p.text ++ line;
  parts =
      p.parts ∙ ap (λ (xs : List ℕ). p.text ++ xs) is ∙ sym (append_assoc p.text line more);
  size = omega (arith, length-append p.text line, p.size, count);
  part = adds first p.text p.size p.part;
}

-- nothing is left, or the room is full: the part and its size are those of the whole text
pub record IsWhole (whole first : List ℕ) (skip size : ℕ) (room : List ℕ) : Type 0 where
  pub size_is : size ≡ part_size (length first) skip whole
  pub part_is : room ≡ with_part first skip whole

pub all_printed : (whole rest first room : List ℕ) (skip at size : ℕ)
    → IsPrinted whole rest first skip at room
    → ((text : List ℕ) → length text ≡ at → size ≡ part_size (length room) skip text)
    → length room ≡ length first → (rest ≡ []) ⊎ (length room < size)
    → IsWhole whole first skip size room
all_printed whole rest first room skip at size p counts same (inl none) =
    let all : p.text ≡ whole = sym (p.parts ∙ rw none (append-nil p.text)) in
    record {
      size_is = counts p.text p.size ∙ rw (same, all) refl;
      part_is = p.part ∙ ap (with_part first skip) all;
    }
all_printed whole rest first room skip at size p counts same (inr full) =
    let now = counts p.text p.size in
    let long : length first < length p.text - skip = omega arith in
    let more = ap length p.parts in
    record {
      size_is = omega (arith, now, long, same, more, length-append p.text rest);
      part_is =
          p.part ∙ full_room first p.text rest skip (omega (arith, long))
          ∙ ap (with_part first skip) (sym p.parts);
    }
