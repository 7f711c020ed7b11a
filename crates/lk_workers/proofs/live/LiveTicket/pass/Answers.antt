use Rattle.std.proofs.Common.{rules, ap, refl}
use Rattle.lk_workers.proofs.SeatMoves.{pass, view_of_seat}
use Rattle.lk_workers.proofs.live.LiveTicket.pass.Goals as goal

pub store-requires : goal.store-requires
store-requires c = (
  search rules,
  search rules,
  pass _ _ _ _ _ (ap (λ m. m.0) c.seat.invariant.0) _ (search rules) refl,
)

pub invariant_of-seat : goal.invariant_of-seat
invariant_of-seat c =
    let t = c.store.ensures.2 _ (ap (λ m. m.0) c.seat.invariant.0) in
    (view_of_seat _ _ _ t.0 (ap (λ m. m.1) c.seat.invariant.0), search rules)
