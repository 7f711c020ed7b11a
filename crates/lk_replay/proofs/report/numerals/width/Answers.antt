-- A thread's number has one to three digits.
use Rattle.std.proofs.Common.{◌+◌, ◌/◌, ◌%◌, [], ◌∷◌, ap, arith, decimal, length, length-append}
use Rattle.std.proofs.Common.{refl}
use Rattle.std.proofs.lemmas.Fmt.{decimal_digit, decimal_step}
use Rattle.lk_replay.proofs.Listing.{two_digits}
use Rattle.lk_replay.proofs.report.numerals.width.Goals as goal

pub returns-then-thread-ge100-clause-digits : goal.returns-then-thread-ge100-clause-digits
returns-then-thread-ge100-clause-digits c =
    let n = c.args.thread in
    omega (
      arith,
      ap length (decimal_step n (omega arith) (omega (arith, c.ranges.thread.fits))),
      length-append (decimal (n / 10)) ((48 + n % 10) ∷ []),
      ap length (two_digits (n / 10) (omega arith) (omega (arith, c.ranges.thread.fits))),
    )

pub returns-then-thread-ge10-clause-digits : goal.returns-then-thread-ge10-clause-digits
returns-then-thread-ge10-clause-digits c =
    rw (two_digits c.args.thread c.if-thread-ge10.true (omega (arith, c.if-thread-ge100.false)))
    refl

pub returns-else-thread-ge10-clause-digits : goal.returns-else-thread-ge10-clause-digits
returns-else-thread-ge10-clause-digits c =
    rw (decimal_digit c.args.thread (omega (arith, c.if-thread-ge10.false))) refl
