-- The bits below a thread's are those of the threads before it.
use Rattle.std.proofs.Common.{arith}
use Rattle.lk_replay.proofs.Bits.{counted_place}
use Rattle.lk_replay.proofs.report.lists.Readers.place_of.Goals as goal

pub overflow_sub-result : goal.overflow_sub-result
overflow_sub-result c =
    let readers = c.self.invariant in
    omega (
      arith,
      counted_place _ c.self.inside.bits c.args.thread readers.bits_are readers.ascending
          readers.fit c.requires,
    )

pub returns : goal.returns
returns c =
    let readers = c.self.invariant in
    rw (← c.self.view_is)
    (omega (
      arith,
      counted_place _ c.self.inside.bits c.args.thread readers.bits_are readers.ascending
          readers.fit c.requires,
    ))
