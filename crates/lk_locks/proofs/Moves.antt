-- The facts that every move of every lock keeps.
use Rattle.std.proofs.Common.{Bool, List, None, Option, Some, false, if◌then◌else◌, length}
use Rattle.std.proofs.Common.{nat_lt, refl, true, ℕ, ◌<◌, ◌≡◌}
use Rattle.std.proofs.{lemmas.Bool.ltb-true, lemmas.List.length-set}
use Rattle.lk_locks.specs.{State.State, State.phase_at, invariants.WellFormed.WellFormed}
use Rattle.lk_locks.specs.Steps.{belongs, change_of, move_change, next_state, refusal_in}
use Rattle.lk_locks.specs.Steps.{refusal_of}
use Rattle.lk_locks.specs.invariants.Locks.{AreLinks, IsPhaseOf}
use Rattle.lk_locks.proofs.EachLock.{proof_of}
use Rattle.lk_locks.proofs.Threads.{each_phase}
use Rattle.lk_locks.specs.Types.{LockKind, Move, Call, Step, Phase, Refusal, NoSuchThread}
use Rattle.lk_locks.specs.Types.{WrongLock}

-- a move keeps the number of words
pub same_length : (kind : LockKind) (bits : ℕ) (ws : List ℕ) (t : ℕ) (p : Phase) (m : Move)
    → length (move_change kind bits ws t p m).words ≡ length ws
same_length kind bits ws t p (Call op) = refl
same_length kind bits ws t p (Step k) = (proof_of kind).keeps_length bits t ws p

-- a move leaves its thread in a phase of the lock
new_phase_fits : (kind : LockKind) (n bits : ℕ) (ws : List ℕ) (t : ℕ) (p : Phase) (m : Move)
    → t < n → IsPhaseOf kind n p → AreLinks kind n ws
    → IsPhaseOf kind n (move_change kind bits ws t p m).phase
new_phase_fits kind n bits ws t p (Call op) h f l = (proof_of kind).call_fits n p op f
new_phase_fits kind n bits ws t p (Step k) h f l = (proof_of kind).step_fits n bits t ws p h f l

-- a move leaves links that name threads, or nobody
new_links_fit : (kind : LockKind) (n bits : ℕ) (ws : List ℕ) (t : ℕ) (p : Phase) (m : Move)
    → t < n → AreLinks kind n ws → AreLinks kind n (move_change kind bits ws t p m).words
new_links_fit kind n bits ws t p (Call op) h l = l
new_links_fit kind n bits ws t p (Step k) h l = (proof_of kind).links_fit n bits t ws p h l

-- the facts that follow from an accepted move
pub record Accepted (s : State) (t : ℕ) (m : Move) : Type 0 where
  pub thread : t < length s.phases
  pub own : belongs s.kind m ≡ true
  pub fits : refusal_in s.kind (phase_at s.phases t) m ≡ None

-- an accepted move leaves a lock that is well formed
pub well_kept : (s : State) (t : ℕ) (m : Move) → WellFormed s → Accepted s t m
    → WellFormed (next_state s t m)
well_kept s t m w a =
    let p : Phase = phase_at s.phases t in
    let next : Phase = (change_of s t m).phase in
    let n = length-set s.phases t next in
    record {
      enough = rw (n, same_length s.kind s.bits s.words t p m) w.enough;
      phases_fit =
          rw n
          (each_phase (λ u p. IsPhaseOf s.kind (length s.phases) p) s.phases t next a.thread
          (new_phase_fits s.kind (length s.phases) s.bits s.words t p m a.thread
          (w.phases_fit t a.thread) w.links_fit)
          (λ v _ h. w.phases_fit v h));
      links_fit =
          rw n
          (new_links_fit s.kind (length s.phases) s.bits s.words t p m a.thread w.links_fit);
    }

-- a move that is not refused is of a thread, and of a kind, that the lock has
gate : (a b : Bool) (r : Option Refusal)
    → (if a then (if b then r else Some WrongLock) else Some NoSuchThread) ≡ None
    → (a ≡ true) × (b ≡ true) × (r ≡ None)
gate true true r h = (refl, refl, h)
gate true false r h = cc
gate false b r h = cc

-- a move that is not refused is accepted
pub accepted_of : (s : State) (t : ℕ) (m : Move) → refusal_of s t m ≡ None → Accepted s t m
accepted_of s t m h =
    let (in_lock, own, fits) = gate (nat_lt t (length s.phases)) (belongs s.kind m) _ h in
    record { thread = ltb-true t (length s.phases) in_lock; own = own; fits = fits }
