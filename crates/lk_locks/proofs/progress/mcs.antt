-- The MCS queue lock: the head can go on, or the second, which has still to link itself.
use Rattle.std.proofs.Common.{List, [], ◌∷◌, arith, false, refl, true, ℕ}
use Rattle.std.proofs.Common.{◌≡◌, ◌≢◌}
use Rattle.std.proofs.lemmas.Bool.{eq-eqb, ne_eqb, true_from_ne_false}
use Rattle.lk_locks.specs.{Progress.CanFinish, Progress.is_wait, Sequential.has, State.phase_at}
use Rattle.lk_locks.specs.Locks.{step_of}
use Rattle.lk_locks.specs.invariants.mcs.{IsHead, IsNotQueued, IsQueue, IsRest}
use Rattle.lk_locks.specs.invariants.mcs.{IsSuccessor}
use Rattle.lk_locks.specs.invariants.mcs.{locked_of, next_of}
use Rattle.lk_locks.specs.Types.{Mcs, Phase, AwaitGrant, AwaitLink, CasTail, ClearNext, Grant, Idle}
use Rattle.lk_locks.specs.Types.{LinkTo, McsInside, ReadNext, SetLocked, SwapTail, Release, Cas}
use Rattle.lk_locks.specs.Types.{Read, Swap, Write}
use Rattle.lk_locks.proofs.progress.Going.{SomeoneCan, by_call, by_step, state_of}

-- a read of `next` by a release, or a compare-and-swap, is no poll
no_poll : (bits : ℕ) (ws : List ℕ) (t : ℕ)
    → (is_wait (step_of Mcs bits ws t SwapTail).outcome ≡ false)
    × (is_wait (step_of Mcs bits ws t ReadNext).outcome ≡ false)
    × (is_wait (step_of Mcs bits ws t CasTail).outcome ≡ false)
no_poll bits ws t = (grind arith, grind arith, grind arith)

-- the second in the queue links itself, or the head, which awaits that, finds the link
linked : (bits : ℕ) (ws : List ℕ) (ps : List Phase) (t second : ℕ) (p : Phase)
    → phase_at ps t ≡ AwaitLink → phase_at ps second ≡ p → IsSuccessor ws t second p
    → CanFinish (state_of Mcs bits ws ps)
linked bits ws ps t second (SetLocked before) awaits was after =
    by_step second was (λ same. cc) Write refl refl
linked bits ws ps t second (LinkTo before) awaits was after =
    by_step second was (λ same. cc) Write refl refl
linked bits ws ps t second AwaitGrant awaits was (named, locks) =
    by_step t awaits (λ same. cc) Read refl (rw (ne_eqb (next_of ws t) 0 (omega arith)) refl)
linked bits ws ps t second p awaits was after = absurd after

-- the head of the queue
first : (bits : ℕ) (ws : List ℕ) (ps : List Phase) (t : ℕ) (rest : List ℕ) (p : Phase)
    → phase_at ps t ≡ p → IsHead ws t rest p → IsRest ws ps t rest
    → CanFinish (state_of Mcs bits ws ps)
first bits ws ps t rest AwaitGrant was granted later =
    by_step t was (λ same. cc) Read refl (rw (eq-eqb (locked_of ws t) 0 granted) refl)
first bits ws ps t rest McsInside was head later = by_call t was (λ same. cc) Release refl refl
first bits ws ps t rest ReadNext was head later =
    by_step t was (λ same. cc) Read refl (no_poll bits ws t).1
first bits ws ps t rest CasTail was head later =
    by_step t was (λ same. cc) Cas refl (no_poll bits ws t).2
first bits ws ps t [] AwaitLink was some later = absurd (some refl)
first bits ws ps t (second ∷ others) AwaitLink was some (after, later) =
    linked bits ws ps t second (phase_at ps second) was refl after
first bits ws ps t rest (Grant successor) was head later =
    by_step t was (λ same. cc) Write refl refl
first bits ws ps t rest p was head later = absurd head

-- while somebody is in the queue, its head or the second
queued : (bits : ℕ) (ws : List ℕ) (ps : List Phase) (q : List ℕ) (t : ℕ) → IsQueue ws ps q
    → has q t ≡ true → CanFinish (state_of Mcs bits ws ps)
queued bits ws ps [] t agreed member = cc
queued bits ws ps (head ∷ rest) t agreed member =
    first bits ws ps head rest (phase_at ps head) refl agreed.links.0 agreed.links.1

-- of the threads that are in a call, these two kinds are not in the queue
outside : (ws : List ℕ) (t : ℕ) (p : Phase) → IsNotQueued ws t p → p ≢ Idle → p ≢ ClearNext
    → p ≢ SwapTail → ⊥
outside ws t p not_queued busy not_clearing not_swapping = grind arith

pub someone : SomeoneCan Mcs
someone bits ws ps q t ClearNext well agreed was busy = by_step t was busy Write refl refl
someone bits ws ps q t SwapTail well agreed was busy =
    by_step t was busy Swap refl (no_poll bits ws t).0
someone bits ws ps q t p well agreed was busy =
    queued bits ws ps q.queue t agreed
    (true_from_ne_false (has q.queue t) (λ absent.
    outside ws t p (rw was at (agreed.others t absent)) busy (λ same. cc) (λ same. cc)))
