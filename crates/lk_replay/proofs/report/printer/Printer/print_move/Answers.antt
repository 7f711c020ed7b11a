-- The accepted move's entries may come, and leave a lock that some history leaves.
use Rattle.std.proofs.Common.{None, ap, sym, ◌≡◌, ◌∙◌}
use Rattle.lk_locks.proofs.Machines.{accepted_next}
use Rattle.lk_locks.proofs.Keeping.{entries_may_come, tracked_on}
use Rattle.lk_locks.specs.Steps.{refusal_of, refused_with}
use Rattle.lk_replay.specs.Occupancy.{Occupancy}
use Rattle.lk_replay.proofs.report.printer.Printer.print_move.Goals as goal

pub follow-requires : goal.follow-requires
follow-requires c =
    let line = c.args.line in
    let accepted : refusal_of c.self.inside.machine line.thread line.action ≡ None =
    sym c.play.ensures.refused ∙ ap refused_with c.in_ok-outcome.was in
    rw c.in_ok-outcome.ensures.entries
    (entries_may_come c.self.inside.machine c.self.inside.occupancy.sequential _ _ c.self.invariant
    accepted)

pub invariant_of-self-2 : goal.invariant_of-self-2
invariant_of-self-2 c =
    let line = c.args.line in
    let accepted : refusal_of c.self.inside.machine line.thread line.action ≡ None =
    sym c.play.ensures.refused ∙ ap refused_with c.in_ok-outcome.was in
    tracked_on c.self.inside.machine _ c.self.inside.occupancy.sequential _
    _ _ _ c.self.invariant accepted c.in_ok-outcome.ensures.entries
    (accepted_next _ c.self.inside.machine line.thread line.action accepted c.play.ensures.after)
    (ap (λ (o : Occupancy). o.sequential) c.follow.ensures)
