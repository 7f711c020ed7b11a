use Rattle.std.proofs.Common.{◌≡◌, ◌<◌, [], length, map, All}
use Rattle.lk_workers.specs.invariants.Collected.{places_with}
use Rattle.lk_workers.proofs.many.place_all.Given as goal

abbrev pub invariant-loop-number : goal.invariant-loop-number
invariant-loop-number l =
    (places_with (map (λ r. r.items) l.places.items)
    (map (λ p. (p.0, p.1.items)) l.number-iterator.rest.items)
    ≡ places_with (map (λ _. []) l.texts) (map (λ p. (p.0, p.1.items)) l.fn.reports.items))
    × All (λ p. p.0 < length l.texts) l.number-iterator.rest.items
    × (length l.places.items ≡ length l.texts)
    × (goal.iterator-loop-number).can_next l.number-iterator
    × (goal.iterator-loop-number).is_finite l.number-iterator
