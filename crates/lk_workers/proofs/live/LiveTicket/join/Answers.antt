use Rattle.std.proofs.Common.{rules, ap}
use Rattle.lk_workers.proofs.SeatMoves.{inspects}
use Rattle.lk_workers.proofs.SeatJoins.{merges}
use Rattle.lk_workers.proofs.live.LiveTicket.join.Goals as goal

pub join_seat-requires : goal.join_seat-requires
join_seat-requires c = (
  search rules,
  search rules,
  search rules,
  search rules,
  merges _ _ _ _ _ _ _ (ap (λ m. m.0) c.seat.invariant.0) (ap (λ m. m.0) c.other.invariant.0)
      (search rules) (search rules),
)

pub load-requires : goal.load-requires
load-requires c = (search rules, search rules, inspects _ _ _ _)
