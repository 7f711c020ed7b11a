-- The next line comes after those before it.
use Rattle.std.proofs.Common.{◌≡◌, ◌-◌, ◌<◌, ◌∙◌, append_assoc, arith, length, subst, sym, take}
use Rattle.lk_replay.specs.ReportRest.{ReportRest}
use Rattle.lk_replay.proofs.Printed.{lines_left}
use Rattle.lk_replay.proofs.Texts.{written_after}
use Rattle.lk_replay.proofs.report.replay.Replay.fill.Goals as goal
use borrow.Rule.Slice.PartMut.{mid_len, mid_of, post_of, put_mid, same_len_mid}

pub returns-then-is_some-clause-text : goal.returns-then-is_some-clause-text
returns-then-is_some-clause-text c =
    let at = c.loop-self.len in
    let more = c.print_next-len.result in
    let place = c.loop-self.place in
    let now = c.print_next-len.new.place in
    rw (
      written_after place now (post_of at (length place - at) place) at more (omega arith)
          c.print_next-len.ensures.fits,
      append_assoc (take at place) (take more now) c.print_next-len.new.self.text,
      ← c.print_next-len.ensures.text,
    )
    c.loop-self.invariant.text

pub loop-self-preserved : goal.loop-self-preserved
loop-self-preserved c =
    let at = c.loop-self.len in
    let more = c.print_next-len.result in
    let place = c.loop-self.place in
    let now = c.print_next-len.new.place in
    let part = mid_len at (length place - at) place (omega arith) in
    let wide : length now ≡ length (mid_of at (length place - at) place) =
    omega (arith, c.print_next-len.auto.place, part) in
    let size : length (put_mid at (length place - at) place now) ≡ length place =
    same_len_mid at (length place - at) place now wide in
    record {
      text =
          rw (
            written_after place now (post_of at (length place - at) place) at more (omega arith)
                c.print_next-len.ensures.fits,
            append_assoc (take at place) (take more now) c.print_next-len.new.self.text,
            ← c.print_next-len.ensures.text,
          )
          c.loop-self.invariant.text;
      room = omega (
        arith,
        size,
        wide,
        part,
        c.print_next-len.ensures.fits,
        c.if-place-len-lt-LEAST_PLACE.false,
      );
      same = size ∙ c.loop-self.invariant.same;
      some = subst (λ (r : ReportRest). 0 < r.left) c.self.view_is
          (lines_left c.self.inside.ending _ _ _ (sym c.if-is_some.false ∙ c.is_some.ensures));
      fewer = omega (arith, c.print_next-len.ensures.left, c.loop-self.invariant.fewer);
      ending = c.print_next-len.ensures.ending ∙ c.loop-self.invariant.ending;
    }
