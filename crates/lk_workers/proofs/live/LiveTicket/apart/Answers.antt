use Rattle.std.proofs.Common.{rules, ap, ◌∙◌}
use Rattle.lk_workers.specs.SeatSteps.{pair_of}
use Rattle.lk_workers.proofs.SeatMoves.{inspects}
use Rattle.lk_workers.proofs.SeatJoins.{pairs, unpairs}
use Rattle.lk_workers.proofs.live.LiveTicket.apart.Goals as goal

pub join_seat-requires : goal.join_seat-requires
join_seat-requires c = (
  search rules,
  search rules,
  search rules,
  search rules,
  pairs _ _ _ _ _ _ _ (ap (λ m. m.0) c.seat.invariant.0) (ap (λ m. m.0) c.other.invariant.0),
)

pub load-seat-inside-requires : goal.load-seat-inside-requires
load-seat-inside-requires c = (search rules, search rules, inspects _ _ _ _)

pub split_seat-requires : goal.split_seat-requires
split_seat-requires c =
    let is =
    ap (λ m. m.0) (c.load-seat-inside.ensures.2.0 ∙ c.join_seat.ensures.2)
    ∙ (λ k. pair_of (c.seat.invariant.0 k).0 (c.other.invariant.0 k).0) in
    (search rules, search rules, unpairs _ _ _ _ _ is)
