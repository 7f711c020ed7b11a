-- The part up to the first line feed, or all that was read ahead.
use Rattle.std.proofs.Common.{◌≡◌, ◌+◌, ◌-◌, ◌++◌, ◌∙◌, false, length, length-drop}
use Rattle.std.proofs.Common.{length-take-le, take, drop, ap, sym, subst, arith, None, Some, List}
use Rattle.std.proofs.Common.{ℕ, refl}
use Rattle.std.specs.Io.KnownBytes.{prepend_known}
use Rattle.std.specs.Prelude.{slice_range}
use Rattle.memchr.specs.Find.{IsFirstByte, is_byte}
use Rattle.lk_text.proofs.Taken.{part_to, part_all, range_rest, range_empty}
use Rattle.lk_text.specs.Lines.{kept_bytes}
use Rattle.lk_text.specs.invariants.{TakesPart}
use Rattle.lk_text.proofs.lines.Lines.take_part.Goals as goal

pub returns-in-Some : goal.returns-in-Some
returns-in-Some g c =
    let lines = c.args.self.now in
    let known = g.R.Read.remaining lines.input in
    let ahead = slice_range lines.chunk.items lines.at lines.filled in
    let end = c.in-Some.end in
    let found =
    subst
    (λ (l : List ℕ). IsFirstByte (is_byte 10) (slice_range l lines.at lines.filled) (Some end))
    c.deref.ensures.value c.in-Some.ensures in
    part_to ahead (slice_range lines.chunk.items (lines.at + (end + 1)) lines.filled) end known _ _
    (range_rest lines.chunk.items lines.at lines.filled (end + 1)) found.0 found.1
    (c.keep.ensures.kept ∙ ap (λ (l : List ℕ). take 97 (kept_bytes c.args.line.now ++ take end
    (slice_range l lines.at lines.filled))) c.deref.ensures.value) refl

pub returns-in-None : goal.returns-in-None
returns-in-None g c =
    let lines = c.args.self.now in
    let known = g.R.Read.remaining lines.input in
    let ahead = slice_range lines.chunk.items lines.at lines.filled in
    let size : length ahead ≡ lines.filled - lines.at =
    length-take-le (lines.filled - lines.at) (drop lines.at lines.chunk.items)
    (omega (arith, length-drop lines.at lines.chunk.items, lines.inside)) in
    let found =
    subst (λ (l : List ℕ). IsFirstByte (is_byte 10) (slice_range l lines.at lines.filled) None)
    c.deref.ensures.value c.in-None.ensures in
    subst (λ (l : List ℕ). TakesPart false (prepend_known ahead known) (prepend_known l known)
    c.args.line.now c.keep-in-None.new.self)
    (sym (range_empty lines.chunk.items lines.filled lines.filled (omega arith)))
    (part_all ahead known _ _ found (omega (arith, c.requires, size))
    (c.keep-in-None.ensures.kept
    ∙ ap (λ (l : List ℕ).
    take 97 (kept_bytes c.args.line.now ++ slice_range l lines.at lines.filled))
    c.deref.ensures.value) c.keep-in-None.ensures.whole)
