-- The first line that is not skipped is the header.
use Rattle.std.proofs.Common.{◌+◌, refl}
use Rattle.std.proofs.lemmas.Result.{err_from_is_err_and}
use Rattle.lk_lines.specs.Header.{header_of}
use Rattle.lk_replay.specs.Schedule.{moves_from, with_header}
use Rattle.lk_replay.proofs.Moves.{fails_as, header_here, no_header}
use Rattle.lk_lines.proofs.Skipped.{skips_same}
use Rattle.lk_replay.proofs.schedule.read_header.Goals as goal

pub returns-in_default-clause-fault : goal.returns-in_default-clause-fault
returns-in_default-clause-fault c =
    rw c.number.ensures
    (no_header c.args.text.now _ _ c.if-text-gt-MOST_BYTES.false
    (skips_same _ _ c.new-lines.ensures _ _ _ c.in_default.ensures.end refl)
    c.in_default.ensures.none)

pub returns-in_err-header-clause-fault : goal.returns-in_err-header-clause-fault
returns-in_err-header-clause-fault c =
    let error = err_from_is_err_and c.from_residual.result c.from_residual.ensures.1 in
    let others = c.next_line.new.self.lines in
    let text =
    header_here c.args.text.now c.in-Some.line.now others c.in-Some.number
    c.if-text-gt-MOST_BYTES.false
    (skips_same _ _ c.new-lines.ensures _ _ _ c.in-Some.ensures.found refl) c.in-Some.ensures.read
    in
    rw (error.1, error.2, text)
    (fails_as c.in_err-header.field-0.0
    (λ h. with_header h (moves_from (c.in-Some.number + 1) 0 others))
    (header_of c.in-Some.number c.in-Some.line.now) (λ e. refl) c.in_err-header.ensures.no_memory
    c.in_err-header.ensures.read)

pub returns-clause-read : goal.returns-clause-read
returns-clause-read c =
    rw (
      header_here c.args.text.now c.in-Some.line.now c.next_line.new.self.lines c.in-Some.number
          c.if-text-gt-MOST_BYTES.false
          (skips_same _ _ c.new-lines.ensures _ _ _ c.in-Some.ensures.found refl)
          c.in-Some.ensures.read,
      c.in_ok-header.ensures.read,
      c.in-Some.ensures.counted,
    )
    refl
