use Rattle.std.proofs.Common.{rules, ap, refl}
use Rattle.lk_locks.specs.declared.kinds.Phase.TheVariants.{PassOn}
use Rattle.lk_workers.proofs.SeatMoves.{read, view_of_seat}
use Rattle.lk_workers.proofs.live.LiveTicket.read_serving.Goals as goal

pub load-serving-requires : goal.load-serving-requires
load-serving-requires c =
    (search rules, search rules, read _ _ _ _ _ (ap (λ m. m.0) c.seat.invariant.0) (search rules))

pub invariant_of-seat : goal.invariant_of-seat
invariant_of-seat c =
    let t = c.load-serving.ensures.2 _ (ap (λ m. m.0) c.seat.invariant.0) in
    (view_of_seat _ _ _ t.0 (ap (λ m. m.1) c.seat.invariant.0), c.seat.invariant.1)

pub returns-clause-event : goal.returns-clause-event
returns-clause-event c =
    let t = c.load-serving.ensures.2 _ (ap (λ m. m.0) c.seat.invariant.0) in
    λ i ws. (ap PassOn t.1, refl)
