use Rattle.lk_order.specs.Shelves.{HaveLogs}
use Rattle.lk_order.proofs.shelf.Shelf.missing.Given as goal

abbrev pub invariant-loop-thread : goal.invariant-loop-thread
invariant-loop-thread l = HaveLogs l.self l.thread
