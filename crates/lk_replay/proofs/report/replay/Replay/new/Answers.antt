-- All moves are left, on a new lock.
use Rattle.std.proofs.Common.{◌∙◌, ap, arith, refl}
use Rattle.lk_replay.specs.Printing.{Printing, printing_of}
use Rattle.lk_replay.proofs.Printed.{replay_printed}
use Rattle.lk_replay.proofs.report.replay.Replay.new.Goals as goal

pub returns-clause-text : goal.returns-clause-text
returns-clause-text c =
    let new = c.new.ensures ∙ ap printing_of c.shape.ensures in
    replay_printed c.args.schedule.now _ _ _ _ (ap (λ (p : Printing). p.occupancy) new)
    (ap (λ (p : Printing). p.count) new) (ap (λ (p : Printing). p.state) new)
    c.moves.ensures.moves
