-- The writes of a section tell all that it changes.
use Rattle.std.proofs.Common.{List, None, Option, Some, arith, length, refl, slice_index, ℕ, IfSome}
use Rattle.std.proofs.Common.{inl, inr, set, suc, sym, zero, ◌<◌, ◌≤◌, ◌^◌, ◌==◌, ◌∙◌, ◌≡◌, ◌≢◌}
use Rattle.std.specs.Option.{option_or}
use Rattle.std.proofs.lemmas.Bool.{cases_Bool, eq-eqb, eqb-false, eqb-true}
use Rattle.std.proofs.lemmas.Option.{IfSome_then}
use Rattle.std.proofs.lemmas.List.{get_or-set_other, get_or-set_same, length-set}
use Rattle.lk_words.specs.declared.operation.Effect.{Effect}
use Rattle.lk_locks.specs.read_write.{IsChangeOf, IsOn, Tells, change_at, change_to, word_count}
use Rattle.lk_locks.specs.invariants.read_write.{count_with, third_word, after_writes}
use Rattle.lk_locks.specs.Types.{Family, Outcome}

-- the words of the monitor, counted by whether there is a third one
pub count_of_third : (family : Family) (ws : List ℕ)
    → count_with (third_word family ws) ≡ word_count family
count_of_third family ws = grind arith

-- a section writes in the first word, and in the second or the third
abbrev IsFirst : ℕ × ℕ → Type 0
IsFirst first = first.0 ≡ 0

abbrev pub IsOther : List ℕ → ℕ × ℕ → Type 0
IsOther ws other = (0 < other.0) × (other.0 < 3) × (other.0 < length ws)

-- the writes of a section, in a list that is not empty
pub record Writes (ws : List ℕ) (first other : Option (ℕ × ℕ)) : Type 0 where
  pub some : 0 < length ws
  pub first_is : IfSome first IsFirst
  pub other_is : IfSome other (IsOther ws)

few_words : (family : Family) → (2 ≤ word_count family) × (word_count family ≤ 3)
few_words family = grind arith

-- a section of this family makes such writes
pub writes_of : (bits : ℕ) (family : Family) (ws : List ℕ) (third : Option ℕ)
    (first other : Option (ℕ × ℕ)) → word_count family ≤ length ws → third ≡ third_word family ws
    → IfSome first (λ w. (w.0 ≡ 0) × (w.1 < 2 ^ bits))
    → IfSome other (λ w. (0 < w.0) × (w.0 < count_with third) × (w.1 < 2 ^ bits))
    → Writes ws first other
writes_of bits family ws third first other room is f o = record {
  some = omega (arith, room, (few_words family).0);
  first_is = IfSome_then first f (λ w h. h.0);
  other_is = IfSome_then other o (λ w h.
      let below : w.0 < word_count family = rw (← count_of_third family ws) (rw is at h.1) in
      (h.0, omega (arith, below, (few_words family).1), omega (arith, below, room)));
}

-- a word after the writes
at_first : (ws : List ℕ) (i x : ℕ) (other : Option (ℕ × ℕ)) → Writes ws (Some (i, x)) other
    → slice_index (after_writes ws (Some (i, x)) other) i ≡ x
at_first ws i x None w = get_or-set_same ws i x 0 (omega (arith, w.first_is, w.some))
at_first ws i x (Some (j, y)) w =
    get_or-set_other (set ws i x) j i y 0 (λ e. omega (arith, e, w.first_is, w.other_is.0))
    ∙ get_or-set_same ws i x 0 (omega (arith, w.first_is, w.some))

at_other : (ws : List ℕ) (first : Option (ℕ × ℕ)) (i v : ℕ) → i < length ws
    → slice_index (after_writes ws first (Some (i, v))) i ≡ v
at_other ws None i v h = get_or-set_same ws i v 0 h
at_other ws (Some (j, x)) i v h =
    get_or-set_same (set ws j x) i v 0 (omega (arith, h, length-set ws j x))

-- a word that is not written
abbrev IsOff : Option (ℕ × ℕ) → ℕ → Type 0
IsOff write i = IfSome write (λ w. i ≢ w.0)

off : (ws : List ℕ) (first other : Option (ℕ × ℕ)) (i : ℕ) → IsOff first i → IsOff other i
    → slice_index (after_writes ws first other) i ≡ slice_index ws i
off ws None None i a b = refl
off ws (Some (j, x)) None i a b = get_or-set_other ws j i x 0 a
off ws None (Some (k, y)) i a b = get_or-set_other ws k i y 0 b
off ws (Some (j, x)) (Some (k, y)) i a b =
    get_or-set_other (set ws j x) k i y 0 b ∙ get_or-set_other ws j i x 0 a

off_first : (ws : List ℕ) (first other : Option (ℕ × ℕ)) (i : ℕ) → Writes ws first other
    → 0 < i → IsOff first i
off_first ws None other i w h = tt
off_first ws (Some (j, x)) other i w h = λ e. omega (arith, e, h, w.first_is)

off_other : (ws : List ℕ) (first other : Option (ℕ × ℕ)) → Writes ws first other
    → IsOff other 0
off_other ws first None w = tt
off_other ws first (Some (k, y)) w = λ e. omega (arith, e, w.other_is.0)

-- a word that stays is no change, and another's change is to its value
stays : (before after : List ℕ) (i : ℕ) → slice_index after i ≡ slice_index before i
    → change_at before after i ≡ None
stays before after i e = rw (e, eq-eqb (slice_index before i) (slice_index before i) refl) refl

goes_to : (before after : List ℕ) (i v : ℕ) → slice_index after i ≡ v
    → change_at before after i ≡ change_to before (Some (i, v))
goes_to before after i v e = rw e refl

pub first_is : (ws : List ℕ) (first other : Option (ℕ × ℕ)) → Writes ws first other
    → change_at ws (after_writes ws first other) 0 ≡ change_to ws first
first_is ws None other w =
    stays ws (after_writes ws None other) 0 (off ws None other 0 tt (off_other ws None other w))
first_is ws (Some (zero, x)) other w =
    goes_to ws (after_writes ws (Some (0, x)) other) 0 x (at_first ws 0 x other w)
first_is ws (Some (suc i, x)) other w = absurd (omega (arith, w.first_is))

or_none : (change : Option Effect) → option_or change None ≡ change
or_none change = grind arith

pub second_is : (ws : List ℕ) (first other : Option (ℕ × ℕ)) → Writes ws first other
    → option_or (change_at ws (after_writes ws first other) 1)
    (change_at ws (after_writes ws first other) 2)
    ≡ change_to ws other
second_is ws first None w =
    let off_at : (i : ℕ) → 0 < i → change_at ws (after_writes ws first None) i ≡ None =
    λ i h. stays ws (after_writes ws first None) i
    (off ws first None i (off_first ws first None i w h) tt) in
    rw (off_at 1 (omega arith), off_at 2 (omega arith)) refl
second_is ws first (Some (suc zero, v)) w =
    rw (stays ws (after_writes ws first (Some (1, v))) 2
    (off ws first (Some (1, v)) 2 (off_first ws first (Some (1, v)) 2 w (omega arith))
    (λ e. omega (arith, e))))
    (or_none _
    ∙ goes_to ws (after_writes ws first (Some (1, v))) 1 v (at_other ws first 1 v w.other_is.2))
second_is ws first (Some (suc (suc zero), v)) w =
    rw (stays ws (after_writes ws first (Some (2, v))) 1
    (off ws first (Some (2, v)) 1 (off_first ws first (Some (2, v)) 1 w (omega arith))
    (λ e. omega (arith, e))))
    (goes_to ws (after_writes ws first (Some (2, v))) 2 v (at_other ws first 2 v w.other_is.2))
second_is ws first (Some (i, v)) w = absurd (omega (arith, w.other_is.0, w.other_is.1))

write_changes : (ws after : List ℕ) (i v : ℕ) → i < length ws → slice_index after i ≡ v
    → IsChangeOf ws after (change_to ws (Some (i, v)))
write_changes ws after i v h e = grind arith

write_keeps : (ws : List ℕ) (i v : ℕ) → (IsOn (change_to ws (Some (i, v))) i → ⊥)
    → slice_index ws i ≡ v
write_keeps ws i v off = grind arith

first_change : (ws : List ℕ) (first other : Option (ℕ × ℕ)) → Writes ws first other
    → IsChangeOf ws (after_writes ws first other) (change_to ws first)
first_change ws None other w = tt
first_change ws (Some (i, x)) other w =
    write_changes ws (after_writes ws (Some (i, x)) other) i x (omega (arith, w.first_is, w.some))
    (at_first ws i x other w)

second_change : (ws : List ℕ) (first other : Option (ℕ × ℕ)) → Writes ws first other
    → IsChangeOf ws (after_writes ws first other) (change_to ws other)
second_change ws first None w = tt
second_change ws first (Some (i, v)) w =
    write_changes ws (after_writes ws first (Some (i, v))) i v w.other_is.2
    (at_other ws first i v w.other_is.2)

are_apart : (ws : List ℕ) (first other : Option (ℕ × ℕ)) → Writes ws first other → (j : ℕ)
    → IsOn (change_to ws first) j → IsOn (change_to ws other) j → ⊥
are_apart ws first other w j a b = grind arith

-- at a word that is told unchanged each write leaves what it finds
off_or_same : (ws after : List ℕ) (write : Option (ℕ × ℕ)) (j : ℕ)
    → (IsOn (change_to ws write) j → ⊥)
    → ((v : ℕ) → write ≡ Some (j, v) → slice_index after j ≡ v)
    → (IsOff write j → slice_index after j ≡ slice_index ws j)
    → slice_index after j ≡ slice_index ws j
off_or_same ws after None j n is other = other tt
off_or_same ws after (Some (i, v)) j n is other = elim (cases_Bool (j == i)) [
  | inl same ↦
      let e : j ≡ i = eqb-true j i same in
      is v (rw e refl) ∙ sym (write_keeps ws j v (rw (← e) at n))
  | inr differs ↦ other (eqb-false j i differs)
]

-- the effect of a section that makes such writes tells all that the section does
pub section_tells : (ws : List ℕ) (first other : Option (ℕ × ℕ)) (outcome : Outcome)
    → Writes ws first other
    → Tells (record { first = change_to ws first; second = change_to ws other; outcome = outcome })
    ws (after_writes ws first other)
section_tells ws first other outcome w = record {
  first_is = first_change ws first other w;
  second_is = second_change ws first other w;
  apart = are_apart ws first other w;
  others = λ j a b.
      off_or_same ws (after_writes ws first other) other j b
      (λ v e. rw e (at_other ws first j v (rw e at w.other_is).2))
      (λ off_b. off_or_same ws (after_writes ws first other) first j a
      (λ v e. rw e (at_first ws j v other (rw e at w)))
      (λ off_a. off ws first other j off_a off_b));
}
