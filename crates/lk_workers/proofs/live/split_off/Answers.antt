use Rattle.std.proofs.Common.{rules}
use Rattle.lk_workers.proofs.SeatJoins.{splits}
use Rattle.lk_workers.proofs.live.split_off.Goals as goal

pub split_seat-requires : goal.split_seat-requires
split_seat-requires g c =
    let l = c.requires.left in
    (search rules, search rules, rw (← c.requires.amount) (splits _ _ _ _ l.0 l.1 l.2))
