use Rattle.std.proofs.Common.{rules, ap, refl, eq-eqb, ne_eqb, true, false}
use Rattle.lk_workers.specs.Seats.{seat_with}
use Rattle.lk_workers.proofs.SeatMoves.{look, view_after_look}
use Rattle.lk_workers.proofs.live.LiveTicket.look.Goals as goal

pub load-serving-requires : goal.load-serving-requires
load-serving-requires c =
    (search rules, search rules, look _ _ _ _ _ (ap (λ m. m.0) c.seat.invariant.0) (search rules))

pub invariant_of-seat : goal.invariant_of-seat
invariant_of-seat c = let t = c.load-serving.ensures.2 _ (ap (λ m. m.0) c.seat.invariant.0) in
    let i = c.seat.inside in
    let r = seat_with i.phase i.ticket i.left i.taken i.seen i.seat.me.0 in (
      view_after_look _ _ r _ _ true t.0 (ap (λ m. m.1) c.seat.invariant.0)
          (eq-eqb _ _ c.if-served.true) refl,
      c.seat.invariant.1,
    )

pub invariant_of-seat-else-served : goal.invariant_of-seat-else-served
invariant_of-seat-else-served c =
    let t = c.load-serving.ensures.2 _ (ap (λ m. m.0) c.seat.invariant.0) in
    let i = c.seat.inside in
    let r = seat_with i.phase i.ticket i.left i.taken i.seen i.seat.me.0 in (
      view_after_look _ _ r _ _ false t.0 (ap (λ m. m.1) c.seat.invariant.0)
          (ne_eqb _ _ c.if-served.false) (search rules),
      c.seat.invariant.1,
    )

pub returns-then-served-clause-later : goal.returns-then-served-clause-later
returns-then-served-clause-later c =
    let t = c.load-serving.ensures.2 _ (ap (λ m. m.0) c.seat.invariant.0) in
    rw (← c.seat.view_is) t.1

pub returns-else-served-clause-later : goal.returns-else-served-clause-later
returns-else-served-clause-later c =
    let t = c.load-serving.ensures.2 _ (ap (λ m. m.0) c.seat.invariant.0) in
    rw (← c.seat.view_is) t.1
