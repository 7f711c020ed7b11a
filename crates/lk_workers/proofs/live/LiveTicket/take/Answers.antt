use Rattle.std.proofs.Common.{rules, ap}
use Rattle.lk_workers.proofs.SeatMoves.{take, view_of_seat}
use Rattle.lk_workers.proofs.live.LiveTicket.take.Goals as goal

pub fetch_add-ticket-requires : goal.fetch_add-ticket-requires
fetch_add-ticket-requires c = (
  search rules,
  search rules,
  take _ _ _ _ _ (ap (λ m. m.0) c.seat.invariant.0) (search rules) (search rules),
)

pub overflow_add-seat : goal.overflow_add-seat
overflow_add-seat c =
    let t = c.fetch_add-ticket.ensures.2 _ (ap (λ m. m.0) c.seat.invariant.0) in
    search rules

pub invariant_of-seat : goal.invariant_of-seat
invariant_of-seat c =
    let t = c.fetch_add-ticket.ensures.2 _ (ap (λ m. m.0) c.seat.invariant.0) in
    (view_of_seat _ _ _ t.0 (ap (λ m. m.1) c.seat.invariant.0), t.1.1)

pub returns-clause-seen : goal.returns-clause-seen
returns-clause-seen c =
    let t = c.fetch_add-ticket.ensures.2 _ (ap (λ m. m.0) c.seat.invariant.0) in
    rw (← c.seat.view_is) t.1.0
