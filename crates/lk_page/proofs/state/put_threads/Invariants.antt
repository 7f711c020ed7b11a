-- The bytes so far and those of the other threads are the bytes before and those of all threads.
use Rattle.std.proofs.Common.{◌≡◌, ◌+◌, ◌-◌, ◌*◌, ◌++◌, length}
use Rattle.lk_page.specs.Layout.{threads_bytes}
use Rattle.lk_page.proofs.state.put_threads.Given as goal

abbrev pub invariant-loop-thread : goal.invariant-loop-thread
invariant-loop-thread l = record {
  bytes : l.out.items ++ threads_bytes l.machine l.thread (64 - l.thread)
      ≡ l.initial.out.items ++ threads_bytes l.machine 0 64;
  size : length l.out.items ≡ length l.initial.out.items + 16 * l.thread;
}
