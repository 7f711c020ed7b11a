use Rattle.std.proofs.Common.{◌≡◌}
use Rattle.lk_workers.specs.declared.live.LivePhase.TheVariants.{Waiting}
use Rattle.two_threads.proofs.rounds.wait.Given as goal

abbrev pub invariant-loop : goal.invariant-loop
invariant-loop l =
    (l.seat.table ≡ l.lock) × (l.seat.state.phase ≡ Waiting)
    × (l.seat.state.left ≡ l.fn.seat.state.left)
