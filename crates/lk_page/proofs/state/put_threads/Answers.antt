use Rattle.std.proofs.Common.{arith}
use Rattle.lk_page.proofs.Threads.{threads_more, threads_done}
use Rattle.lk_page.proofs.state.put_threads.Goals as goal

pub loop-thread-preserved : goal.loop-thread-preserved
loop-thread-preserved c = record {
  bytes =
      threads_more c.args.machine.now c.loop-thread.thread c.loop-thread.out.items _ _
      c.loop-thread-test.true c.put_place.ensures.bytes c.loop-thread.invariant.bytes;
  size = omega (arith, c.put_place.ensures.size, c.loop-thread.invariant.size);
}

pub returns-clause-bytes : goal.returns-clause-bytes
returns-clause-bytes c =
    threads_done c.args.machine.now c.loop-thread.thread c.loop-thread.out.items _
    c.loop-thread-test.false c.loop-thread.invariant.bytes
