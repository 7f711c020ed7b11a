-- The digits come after the bytes before them.
use Rattle.std.proofs.Common.{arith}
use Rattle.lk_replay.proofs.Texts.{digits_written}
use Rattle.lk_replay.proofs.report.numerals.put_number.Goals as goal

pub returns-clause-text : goal.returns-clause-text
returns-clause-text c =
    digits_written c.args.place.now c.write_digits.new.buf _ c.write_digits.result c.args.at
    c.width.result
    (omega (arith, c.write_digits.ensures.start, c.width.ensures.digits))
    c.width.ensures.digits (omega (arith, c.requires)) c.write_digits.ensures.before
    c.write_digits.ensures.written
