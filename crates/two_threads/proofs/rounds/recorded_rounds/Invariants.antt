use Rattle.std.proofs.Common.{◌≡◌, ◌+◌, ◌≤◌}
use Rattle.lk_workers.specs.declared.live.LivePhase.TheVariants.{Idle}
use Rattle.two_threads.proofs.rounds.recorded_rounds.Given as goal

abbrev pub invariant-loop : goal.invariant-loop
invariant-loop l =
    (l.seat.table ≡ l.lock) × (l.seat.state.phase ≡ Idle)
    × (l.rounds ≤ l.seat.state.left + l.counter)
