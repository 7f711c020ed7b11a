use Rattle.std.proofs.Common.{◌≡◌, ◌+◌, ◌≤◌, length, map}
use Rattle.lk_workers.specs.Drawing.{IsSeatOf}
use Rattle.lk_workers.specs.invariants.Collected.{reports_of}
use Rattle.lk_workers.proofs.many.work.Given as goal

abbrev pub invariant-loop-alloc : goal.invariant-loop-alloc
invariant-loop-alloc g l =
    IsSeatOf l.draws l.seat × (length l.seat.drawn + l.seat.left ≡ length l.texts + 1)
    × (length l.seat.drawn ≤ length l.texts)
    × (map (λ p. (p.0, p.1.items)) l.reports.items
    ≡ reports_of (map (λ t. t.items) l.texts) l.seat.drawn)

abbrev pub decreases-loop-alloc : goal.decreases-loop-alloc
decreases-loop-alloc g l = l.seat.left
