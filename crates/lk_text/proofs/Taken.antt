-- A line is taken part by part, and keeps its first 97 bytes.
use Rattle.std.proofs.Common.{◌≡◌, ℕ, ◌+◌, ◌<◌, suc, zero, List, [], ◌∷◌, ◌++◌, length, get_or}
use Rattle.std.proofs.Common.{take, drop, Bool, true, false, None, Some, refl, sym, ap, ◌∙◌, arith}
use Rattle.std.proofs.Common.{take-append-drop, append_assoc, append-nil, length-append}
use Rattle.std.proofs.Common.{get_or-take, length-take-le, ◌≤◌, subst}
use Rattle.std.specs.List.{slice_split}
use Rattle.std.specs.Prelude.{Option, slice_range}
use Rattle.std.specs.Io.KnownBytes.{Consumes, Keeps, IsAtEnd, prepend_known}
use Rattle.std.proofs.KnownBytes.{Consumes-kept, Consumes-nil, Consumes-trans}
use Rattle.std.proofs.lemmas.List.Splits.{slice_split_none, slice_split_at}
use Rattle.std.proofs.lemmas.List.Elements.{All-append}
use Rattle.std.proofs.lemmas.List.{get_or_default, drop_more, drop-drop}
use Rattle.std.proofs.lemmas.Slice.{between_is}
use Rattle.std.proofs.lemmas.Bool.{false_from_ne_true, eqb-true}
use Rattle.memchr.specs.Find.{Nowhere, NoneBefore, Passes, is_byte}
use Rattle.lk_lines.proofs.Cuts.{line_first, line_last}
use Rattle.lk_lines.specs.Lines.{lines_of, is_line_feed}
use Rattle.lk_text.specs.Lines.{TakesLine, kept_bytes, with_end}
use Rattle.lk_text.specs.declared.lines.Line.{Line}
use Rattle.lk_text.specs.invariants.{TakesPart, Taken}

take_again : (n : ℕ) (xs ys : List ℕ) → take n (take n xs ++ ys) ≡ take n (xs ++ ys)
take_again zero xs ys = refl
take_again (suc n) [] ys = refl
take_again (suc n) (x ∷ xs) ys = ap (λ l. x ∷ l) (take_again n xs ys)

-- nothing yet
pub taken_none : (old : Option (List ℕ)) (line : Line) → kept_bytes line ≡ [] → line.whole ≡ false
    → Taken old old line false
taken_none old line empty unended = record {
  bytes = [];
  flat = λ k d h. absurd (omega arith);
  taken = Consumes-nil old;
  kept_is = empty;
  whole_is = unended;
  none = λ _. refl;
  some_is = λ (e : false ≡ true). cc;
}

-- a part more, that does not end the line
pub part_taken : (old mid next new : Option (List ℕ)) (before after : Line) (some whole : Bool)
    → Taken old mid before some → Keeps mid next
    → TakesPart whole next new before after → whole ≡ false → Taken old new after true
part_taken old mid next new before after some true so same part is = absurd (cc)
part_taken old mid next new before after some false so same part is = record {
  bytes = so.bytes ++ part.bytes;
  flat = All-append (λ x. is_line_feed x ≡ false) so.bytes part.bytes so.flat part.flat;
  taken =
      Consumes-trans old next new so.bytes part.bytes
      (Consumes-kept old mid next so.bytes so.taken same) part.taken;
  kept_is =
      part.kept_is ∙ ap (λ l. take 97 (l ++ part.bytes)) so.kept_is
      ∙ take_again 97 so.bytes part.bytes;
  whole_is = part.whole_is ∙ so.whole_is;
  none = λ (e : true ≡ false). cc;
  some_is = λ _. omega (arith, length-append so.bytes part.bytes, part.some refl);
}

-- a part more, whose line feed ends the line
pub line_taken : (old mid next new : Option (List ℕ)) (before after : Line) (some whole : Bool)
    → Taken old mid before some → Keeps mid next
    → TakesPart whole next new before after → whole ≡ true → TakesLine old new after
line_taken None mid next new before after some whole so same part is = tt
line_taken (Some text) mid None new before after some whole so same part is =
    absurd (Consumes-kept (Some text) mid None so.bytes so.taken same)
line_taken (Some text) mid (Some y) None before after some whole so same part is =
    absurd part.taken
line_taken (Some text) mid (Some y) (Some rest) before after some false so same part is =
    absurd (cc)
line_taken (Some text) mid (Some y) (Some rest) before after some true so same part is =
    let line = so.bytes ++ part.bytes in
    let whole : text ≡ line ++ 10 ∷ rest =
    Consumes-kept (Some text) mid (Some y) so.bytes so.taken same
    ∙ ap (λ l. so.bytes ++ l) (part.taken ∙ append_assoc part.bytes (10 ∷ []) rest)
    ∙ sym (append_assoc so.bytes part.bytes (10 ∷ rest)) in
    let cut : slice_split is_line_feed text ≡ line ∷ slice_split is_line_feed rest =
    ap (slice_split is_line_feed) whole
    ∙ slice_split_at is_line_feed line 10 rest
    (All-append (λ x. is_line_feed x ≡ false) so.bytes part.bytes so.flat part.flat) refl in
    record {
      bytes = line;
      first = line_first text line rest cut;
      kept_is =
          part.kept_is ∙ ap (λ l. take 97 (l ++ part.bytes)) so.kept_is
          ∙ take_again 97 so.bytes part.bytes;
      whole_is =
          subst (λ (b : Bool). text ≡ with_end b line ++ rest) (sym part.whole_is)
          (whole ∙ sym (append_assoc line (10 ∷ []) rest));
    }

-- the end of the input ends it too
pub last_taken : (old mid new : Option (List ℕ)) (line : Line) (some : Bool)
    → Taken old mid line some → Keeps mid new → IsAtEnd new → some ≡ true → TakesLine old new line
last_taken None mid new line some so same end is = tt
last_taken (Some text) mid None line some so same end is =
    absurd (Consumes-kept (Some text) mid None so.bytes so.taken same)
last_taken (Some text) mid (Some rest) line some so same end is =
    let taken : text ≡ so.bytes ++ rest =
    Consumes-kept (Some text) mid (Some rest) so.bytes so.taken same in
    let whole : text ≡ so.bytes = taken ∙ ap (λ l. so.bytes ++ l) end ∙ append-nil so.bytes in
    let first : lines_of text ≡ so.bytes ∷ lines_of [] =
    ap lines_of whole
    ∙ line_last so.bytes (so.some_is is) (slice_split_none is_line_feed so.bytes so.flat) in
    record {
      bytes = so.bytes;
      first = first ∙ ap (λ l. so.bytes ∷ lines_of l) (sym end);
      kept_is = so.kept_is;
      whole_is =
          subst (λ (b : Bool). text ≡ with_end b so.bytes ++ rest) (sym so.whole_is) taken;
    }

-- of an input that ends before a line
pub none_taken : (old mid new : Option (List ℕ)) (line : Line) (some : Bool)
    → Taken old mid line some → Keeps mid new → IsAtEnd new → some ≡ false → IsAtEnd old
none_taken None mid new line some so same end is = tt
none_taken (Some text) mid None line some so same end is =
    absurd (Consumes-kept (Some text) mid None so.bytes so.taken same)
none_taken (Some text) mid (Some rest) line some so same end is =
    Consumes-kept (Some text) mid (Some rest) so.bytes so.taken same
    ∙ ap (λ l. l ++ rest) (so.none is) ∙ end

pub consumes_front : (known : Option (List ℕ)) (all front rest : List ℕ) → all ≡ front ++ rest
    → Consumes (prepend_known all known) (prepend_known rest known) front
consumes_front None all front rest is = tt
consumes_front (Some xs) all front rest is = ap (λ l. l ++ xs) is ∙ append_assoc front rest xs

-- the part up to the first line feed
pub part_to : (ahead rest : List ℕ) (k : ℕ) (known : Option (List ℕ)) (before after : Line)
    → rest ≡ drop (k + 1) ahead
    → NoneBefore (Passes (is_byte 10) ahead) 0 (length ahead) k → Passes (is_byte 10) ahead k
    → kept_bytes after ≡ take 97 (kept_bytes before ++ take k ahead) → after.whole ≡ true
    → TakesPart true (prepend_known ahead known) (prepend_known rest known) before after
part_to ahead rest k known before after rest_is none here stays whole_is =
    let feed : get_or ahead k 0 ≡ 10 = eqb-true (get_or ahead k 0) 10 here in
    let whole : ahead ≡ (take k ahead ++ 10 ∷ []) ++ rest =
    sym (take-append-drop k ahead)
    ∙ ap (λ l. take k ahead ++ l)
    (drop_more ahead k 0 none.high ∙ ap (λ b. b ∷ drop (k + 1) ahead) feed)
    ∙ sym (append_assoc (take k ahead) (10 ∷ []) (drop (k + 1) ahead))
    ∙ ap (λ l. (take k ahead ++ 10 ∷ []) ++ l) (sym rest_is) in
    let short : length (take k ahead) ≡ k = length-take-le k ahead (omega (arith, none.high)) in
    record {
      bytes = take k ahead;
      flat = λ i d h. let below : i < k = omega (arith, short, h) in
          ap is_line_feed
          (get_or-take k ahead i d below
          ∙ get_or_default ahead i d 0 (omega (arith, none.high)))
          ∙ false_from_ne_true _ (none.before i (omega arith) below);
      taken = consumes_front known ahead (take k ahead ++ 10 ∷ []) rest whole;
      kept_is = stays;
      whole_is = whole_is;
      some = λ (e : true ≡ false). cc;
    }

-- the whole of what was read ahead
pub part_all : (ahead : List ℕ) (known : Option (List ℕ)) (before after : Line)
    → Nowhere (Passes (is_byte 10) ahead) 0 (length ahead) → 0 < length ahead
    → kept_bytes after ≡ take 97 (kept_bytes before ++ ahead) → after.whole ≡ before.whole
    → TakesPart false (prepend_known ahead known) (prepend_known [] known) before after
part_all ahead known before after none some stays whole_is = record {
  bytes = ahead;
  flat = λ i d h. ap is_line_feed (get_or_default ahead i d 0 h)
      ∙ false_from_ne_true _ (none i (omega arith) h);
  taken = consumes_front known ahead ahead [] (sym (append-nil ahead));
  kept_is = stays;
  whole_is = whole_is;
  some = λ _. some;
}

pub range_rest : (xs : List ℕ) (i j n : ℕ) → slice_range xs (i + n) j ≡ drop n (slice_range xs i j)
range_rest xs i j n =
    between_is xs (i + n) j ∙ sym (drop-drop n i (take j xs))
    ∙ ap (drop n) (sym (between_is xs i j))

pub range_empty : (xs : List ℕ) (i j : ℕ) → j ≤ i → slice_range xs i j ≡ []
range_empty xs i j none = ap (λ n. take n (drop i xs)) {y = 0} (omega arith)

-- nothing was read ahead
pub keeps_new : (known : Option (List ℕ)) → Keeps known (prepend_known [] known)
keeps_new None = tt
keeps_new (Some xs) = refl
