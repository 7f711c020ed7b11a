-- Each accepted move keeps what is known of a lock and its history, also of a history that is only
-- known to be there.
use Rattle.std.proofs.Common.{◌≡◌, ℕ, ◌<◌, List, ◌++◌, length, true, None, refl, ap, sym, ◌∙◌}
use Rattle.std.proofs.lemmas.List.{length-set}
use Rattle.lk_locks.specs.{State.State, State.phase_at, Change.Change, Holding.holder_after}
use Rattle.lk_locks.specs.Steps.{move_change, change_of, next_state, refusal_in, refusal_of}
use Rattle.lk_locks.specs.Steps.{belongs}
use Rattle.lk_locks.specs.Sequential.{Sequential, thread_of}
use Rattle.lk_locks.specs.Legal.{after_entries, Legal, AreEnabled}
use Rattle.lk_locks.specs.invariants.Locks.{AgreeAs, IsPhaseOf, owed_of}
use Rattle.lk_locks.specs.Play.{Tracked, tracker_with}
use Rattle.lk_locks.specs.invariants.Kept.{IsInTurn, Kept, IsRecorded, IsTracked}
use Rattle.lk_locks.proofs.Cases.{AreOf, IsAgreed, IsTaken}
use Rattle.lk_locks.proofs.Threads.{each_phase}
use Rattle.lk_locks.proofs.EachLock.{proof_of}
use Rattle.lk_locks.proofs.Moves.{Accepted, accepted_of, well_kept}
use Rattle.lk_locks.proofs.Histories.{holder_append, after_append, allowed_append, all_append}
use Rattle.lk_locks.proofs.Histories.{all_prefix, all_map, turn_of_step, turn_of_call, same_kind}
use Rattle.lk_locks.proofs.Histories.{turn_of_other}
use Rattle.lk_locks.specs.Types.{LockKind, Phase, Move, Call, Step, Entry, StepKind}

-- a move adds entries of its own thread alone
pub entries_are_own : (kind : LockKind) (bits : ℕ) (ws : List ℕ) (t : ℕ) (p : Phase) (m : Move)
    → AreOf t (move_change kind bits ws t p m).entries
entries_are_own kind bits ws t p (Call op) = (refl, tt)
entries_are_own kind bits ws t p (Step k) =
    let c : Change = move_change kind bits ws t p (Step k) in
    all_prefix (λ e. thread_of e ≡ t) c.entries (owed_of kind t c.phase)
    (let g : AreOf t (owed_of kind t p) = (proof_of kind).owed_is_own t p in
    rw ((proof_of kind).goes_on bits t ws p) at g)

-- the thread of a move is in its turn afterwards
pub turn_kept : (kind : LockKind) (n bits : ℕ) (ws : List ℕ) (es : List Entry) (t : ℕ) (p : Phase)
    (m : Move) → IsPhaseOf kind n p → belongs kind m ≡ true → refusal_in kind p m ≡ None
    → IsInTurn kind es t p
    → let c : Change = move_change kind bits ws t p m in IsInTurn kind (es ++ c.entries) t c.phase
turn_kept kind n bits ws es t p (Call op) f b r i =
    let g = (proof_of kind).begins n t p op f b r in turn_of_call kind es t p _ op g.0 g.1 i
turn_kept kind n bits ws es t p (Step k) f b r i =
    turn_of_step kind es _ t p _ (entries_are_own kind bits ws t p (Step k))
    ((proof_of kind).goes_on bits t ws p) i

-- the facts that are given when a kept lock accepts a move
pub taken_of : (s : State) (q : Sequential) (es : List Entry) (t : ℕ) (m : Move) → Kept s q es
    → Accepted s t m → IsTaken s.kind s.bits s.words s.phases q t (phase_at s.phases t) m
taken_of s q es t m k a = record {
  kind_is = k.kind;
  thread = a.thread;
  few = k.few;
  enough = k.well.enough;
  phase_is = refl;
  fits = k.well.phases_fit t a.thread;
  own = a.own;
  not_refused = a.fits;
  agrees = k.agree;
}

-- the entries of an accepted move may come, and lock and sequential lock agree after it
pub move_agrees : (s : State) (q : Sequential) (es : List Entry) (t : ℕ) (m : Move) → Kept s q es
    → Accepted s t m → IsAgreed (AgreeAs s.kind (next_state s t m)) q (change_of s t m).entries
move_agrees s q es t m k a =
    (proof_of s.kind).keeps s.bits s.words s.phases q t (phase_at s.phases t) m
    (taken_of s q es t m k a)

-- after an accepted move the lock, its sequential lock and its history still belong together
pub keeps : (s : State) (q : Sequential) (es : List Entry) (t : ℕ) (m : Move) → Kept s q es
    → Accepted s t m
    → let new : List Entry = (change_of s t m).entries in
    Kept (next_state s t m) (after_entries q new) (es ++ new)
keeps s q es t m k a =
    let p : Phase = phase_at s.phases t in
    let new : List Entry = (change_of s t m).entries in
    let next : Phase = (change_of s t m).phase in
    let n = length-set s.phases t next in
    let own = entries_are_own s.kind s.bits s.words t p m in
    let (allowed, agree) = move_agrees s q es t m k a in
    record {
      well = well_kept s t m k.well a;
      few = rw n k.few;
      kind = same_kind q new ∙ k.kind;
      now = after_append _ es new ∙ ap (λ x. after_entries x new) k.now;
      allowed = allowed_append _ es new k.allowed (rw k.now allowed);
      turns =
          rw n
          (each_phase (λ v r. IsInTurn s.kind (es ++ new) v r) s.phases t next a.thread
          (turn_kept s.kind (length s.phases) s.bits s.words es t p m
          (k.well.phases_fit t a.thread) a.own a.fits (k.turns t a.thread))
          (λ v d h. turn_of_other s.kind es new t v _ d own (k.turns v h)));
      no_others =
          rw n
          (all_append (λ e. thread_of e < length s.phases) es new k.no_others
          (all_map _ (λ e. thread_of e < length s.phases) (λ e h. rw h a.thread) new own));
      agree = agree;
    }

-- a history that is kept is legal
pub legal_of : (s : State) (q : Sequential) (es : List Entry) → Kept s q es
    → Legal s.kind (length s.phases) es
legal_of s q es k = record {
  allowed = k.allowed;
  well_formed =
      λ t h. let (ops, goes) = k.turns t h in (ops, owed_of s.kind t (phase_at s.phases t), goes);
  no_others = k.no_others;
}

-- a lock and its history go on by an accepted move
pub recorded_on : (k : Tracked) (es : List Entry) (t : ℕ) (m : Move) → IsRecorded k es
    → refusal_of k.state t m ≡ None
    → IsRecorded (tracker_with k (next_state k.state t m) (change_of k.state t m).entries) (es
    ++ (change_of k.state t m).entries)
recorded_on k es t m r a =
    let new : List Entry = (change_of k.state t m).entries in
    record {
      kept = keeps k.state k.sequential es t m r.kept (accepted_of k.state t m a);
      holder = ap (λ h. holder_after h new) r.holder ∙ sym (holder_append None es new);
    }

-- the entries of an accepted move may come next in the history
pub entries_may_come : (s : State) (q : Sequential) (t : ℕ) (m : Move) → IsTracked s q
    → refusal_of s t m ≡ None → AreEnabled q (change_of s t m).entries
entries_may_come s q t m k a = (move_agrees s q k.0 t m k.1 (accepted_of s t m a)).0

-- after an accepted move there is again a history that leads to the lock
pub tracked_on : (s r : State) (q u : Sequential) (es : List Entry) (t : ℕ) (m : Move)
    → IsTracked s q → refusal_of s t m ≡ None → es ≡ (change_of s t m).entries
    → r ≡ next_state s t m → u ≡ after_entries q es → IsTracked r u
tracked_on s r q u es t m k a d e f =
    rw (f, e, d) ((k.0 ++ (change_of s t m).entries, keeps s q k.0 t m k.1 (accepted_of s t m a)))

-- a call adds one entry to the history, which is no act, and does not change the sequential lock
pub tracked_called : (s r : State) (q : Sequential) (t : ℕ) (m : Move) → IsTracked s q
    → refusal_of s t m ≡ None → ((k : StepKind) → m ≡ Step k → ⊥) → r ≡ next_state s t m
    → IsTracked r q
tracked_called s r q t (Call op) k a n e =
    rw e ((
      k.0 ++ (change_of s t (Call op)).entries,
      keeps s q k.0 t (Call op) k.1 (accepted_of s t (Call op) a),
    ))
tracked_called s r q t (Step step) k a n e = absurd (n step refl)
