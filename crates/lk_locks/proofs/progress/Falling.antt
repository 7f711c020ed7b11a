-- Each finishing move lowers the distance of the lock from rest, so there are few of them.
use Rattle.std.proofs.Common.{arith, false, length, refl, sym, true, List, [], ◌∷◌, ℕ, ◌*◌, ◌+◌}
use Rattle.std.proofs.Common.{◌<◌, ◌∙◌, ◌≡◌, ◌≤◌}
use Rattle.std.proofs.lemmas.List.Elements.{All-from_get_or}
use Rattle.std.proofs.lemmas.List.Sums.{sum_by-le, sum_by-set}
use Rattle.lk_locks.specs.Progress.{AreFinishing, IsFinishing, is_acquiring, is_wait, most_moves}
use Rattle.lk_locks.specs.Progress.{state_after}
use Rattle.lk_locks.specs.State.{State, phase_at}
use Rattle.lk_locks.specs.Steps.{after_move, change_of, may_make, move_change, next_state}
use Rattle.lk_locks.specs.Types.{LockKind, Mcs, Move, Phase, RwFifo, RwSimple, Ticket, Idle}
use Rattle.lk_locks.specs.invariants.Distance.{distance, distance_of}
use Rattle.lk_locks.specs.invariants.Locks.{IsPhaseOf}
use Rattle.lk_locks.specs.invariants.WellFormed.{WellFormed}
use Rattle.lk_locks.proofs.Acceptance.{accepts_unless_refused}
use Rattle.lk_locks.proofs.Requests.{none_is}
use Rattle.lk_locks.proofs.progress.Going.{is_possible, is_within}

-- a finishing move lowers the distance of its thread
falls_alone : (kind : LockKind) (bits : ℕ) (ws : List ℕ) (t : ℕ) (p : Phase) (m : Move)
    → may_make kind p m ≡ true → is_acquiring kind m ≡ false
    → is_wait (move_change kind bits ws t p m).outcome ≡ false
    → distance kind (move_change kind bits ws t p m).phase < distance kind p
falls_alone Ticket bits ws t p m may acquires_not waits_not = grind arith
falls_alone Mcs bits ws t p m may acquires_not waits_not = grind arith
falls_alone RwSimple bits ws t p m may acquires_not waits_not = grind arith
falls_alone RwFifo bits ws t p m may acquires_not waits_not = grind arith

-- the other threads keep theirs
pub falls : (s : State) (t : ℕ) (m : Move) → IsFinishing s t m
    → distance_of (next_state s t m) < distance_of s
falls s t m finishing =
    let p : Phase = phase_at s.phases t in
    let next : Phase = (change_of s t m).phase in
    let less : distance s.kind next < distance s.kind p =
    falls_alone s.kind s.bits s.words t p m (is_possible s t m finishing) finishing.acquires_not
    finishing.waits_not in
    omega (
      arith,
      less,
      sum_by-set (distance s.kind) s.phases t next Idle (is_within s t m finishing),
    )

-- a phase is at most as far from idle as the lock has moves
near_alone : (kind : LockKind) (n : ℕ) (p : Phase) → IsPhaseOf kind n p
    → distance kind p ≤ most_moves kind
near_alone Ticket n p fits = grind arith
near_alone Mcs n p fits = grind arith
near_alone RwSimple n p fits = grind arith
near_alone RwFifo n p fits = grind arith

pub near : (s : State) → WellFormed s → distance_of s ≤ length s.phases * most_moves s.kind
near s well =
    sum_by-le (distance s.kind) (most_moves s.kind) s.phases
    (All-from_get_or (λ p. distance s.kind p ≤ most_moves s.kind) s.phases Idle
    (λ t in_lock. near_alone s.kind (length s.phases) _ (well.phases_fit t in_lock)))

-- a finishing move is not refused
pub after_finishing : (s : State) (t : ℕ) (m : Move) → IsFinishing s t m
    → after_move s t m ≡ next_state s t m
after_finishing s t m finishing =
    rw (none_is _ (sym (accepts_unless_refused s t m) ∙ finishing.accepted)) refl

-- each of several finishing moves lowers the distance
pub all_fall : (s : State) (ms : List (ℕ × Move)) → AreFinishing s ms
    → length ms + distance_of (state_after s ms) ≤ distance_of s
all_fall s [] none = omega arith
all_fall s (m ∷ ms) (first, others) =
    let less : distance_of (after_move s m.0 m.1) < distance_of s =
    rw (after_finishing s m.0 m.1 first) (falls s m.0 m.1 first) in
    omega (arith, all_fall (after_move s m.0 m.1) ms others, less)
