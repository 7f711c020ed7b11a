-- One line more, up to the last one or to a full room.
use Rattle.std.proofs.Common.{◌≡◌, ◌∙◌, ◌+◌, ◌++◌, ◌⊎◌, ◌<◌, [], Bool, List, ap, arith, false, inl}
use Rattle.std.proofs.Common.{inr, length, length-take-le, refl, take, true, ℕ}
use Rattle.std.proofs.lemmas.Bool.{OnFalse_at}
use Rattle.lk_replay.specs.Printing.{Printing, printed_text, printing_of, text_after}
use Rattle.lk_replay.specs.Schedule.{moves_left}
use Rattle.lk_replay.specs.declared.schedule.Line.{Line}
use Rattle.lk_replay.proofs.Parts.{IsPrinted, IsWhole, all_printed, line_added, no_part}
use Rattle.lk_replay.proofs.part.print_part.Goals as goal
use Rattle.lk_replay.proofs.part.print_part.Goals.{Joined-then-is_last}

pub loop-lines-init : goal.loop-lines-init
loop-lines-init c = rw c.new-printer.ensures (record {
  printed = record { text = []; parts = refl; size = refl; part = no_part _ _ };
  whole = c.requires;
  few = omega arith;
  bounded = omega arith;
  same = refl;
})

pub loop-lines-preserved : goal.loop-lines-preserved
loop-lines-preserved c =
    let l = c.loop-lines in
    let e = c.print_next-len.ensures in
    let len = c.print_next-len.result.0 in
    let line = c.print_next-len.new.line in
    let size = length-take-le len line e.fits in
    let more = OnFalse_at c.if-is_last.false e.count in
    let text =
    e.text
    ∙ ap (λ (last : Bool). take len line ++ text_after last c.print_next-len.new.printer
    (moves_left c.print_next-len.new.lines c.print_next-len.new.printer.count)) c.if-is_last.false
    in
    record {
      printed = line_added _ _ _ _ _ _ _ _ _ _ l.invariant.printed text (omega (arith, size))
          c.add_bytes.ensures;
      whole = OnFalse_at c.if-is_last.false e.whole;
      few = OnFalse_at c.if-is_last.false e.few;
      bounded = omega (arith, more, e.fits, l.invariant.bounded, c.print_next-len.auto.line);
      same = omega (arith, c.add_bytes.auto.room, l.invariant.same);
    }

-- after the last line nothing is left
enough : (p : Printing) (moves : List Line) (last : Bool) (room size : ℕ)
    → (last ≡ true) ⊎ ((last ≡ false) × (room < size))
    → (text_after last p moves ≡ []) ⊎ (room < size)
enough p moves last room size (inl is) = inl (rw is refl)
enough p moves last room size (inr more) = inr more.1

is_whole : (c : Joined-then-is_last)
    → IsWhole (printed_text (printing_of c.args.shape) (moves_left c.args.lines 0)) c.args.room.now
    c.args.skip c.size_from-size.result c.add_bytes.new.room
is_whole c =
    let l = c.loop-lines in
    let e = c.print_next-len.ensures in
    let size =
    length-take-le c.print_next-len.result.0 c.print_next-len.new.line e.fits in
    all_printed _ _ _ _ _ _ _ (line_added _ _ _ _ _ _ _ _ _ _ l.invariant.printed e.text
    (omega (arith, size)) c.add_bytes.ensures) c.size_from-size.ensures
    (omega (arith, c.add_bytes.auto.room, l.invariant.same))
    (enough c.print_next-len.new.printer
    (moves_left c.print_next-len.new.lines c.print_next-len.new.printer.count)
    c.print_next-len.result.1 _ _ c.then-is_last.either)

pub returns-then-is_last-clause-size : goal.returns-then-is_last-clause-size
returns-then-is_last-clause-size c = (is_whole c).size_is

pub returns-then-is_last-clause-part : goal.returns-then-is_last-clause-part
returns-then-is_last-clause-part c = (is_whole c).part_is
