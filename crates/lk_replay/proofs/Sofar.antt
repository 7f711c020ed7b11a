-- The replay so far, and that of the rest.
use Rattle.std.proofs.Common.{◌≡◌, ℕ, ◌+◌, ◌<◌, ◌≤◌, List, [], ◌∷◌, ◌++◌, map, length, Option, None}
use Rattle.std.proofs.Common.{Some, Ok, Err, refl, ap, sym, ◌∙◌, append_assoc, append-nil, drop}
use Rattle.std.proofs.Common.{get_or}
use Rattle.std.specs.List.{flat_map}
use Rattle.std.proofs.Math.ListN.{length-set}
use Rattle.std.proofs.lemmas.List.{at_drop_all, at_drop_more}
use Rattle.lk_locks.specs.Steps.{refusal_of, change_of}
use Rattle.lk_locks.specs.Play.{RecordedLock, after_play, IsPlayAnswer}
use Rattle.lk_locks.specs.declared.kinds.Outcome.{Outcome}
use Rattle.lk_locks.specs.declared.kinds.Refusal.{Refusal}
use Rattle.lk_locks.specs.declared.faults.PlayFault.{PlayFault}
use Rattle.lk_locks.specs.declared.faults.PlayFault.TheVariants.{Refused}
use Rattle.lk_replay.specs.declared.schedule.Line.{Line}
use Rattle.lk_replay.specs.Replay.{Replay, Replayed, replay_from}
use Rattle.lk_replay.specs.declared.played.Accepted.{Accepted}

abbrev pub accepted_of : Line → Outcome → Accepted
accepted_of l p = record { line = l.number; thread = l.thread; action = l.action; outcome = p }

-- the view of these moves, of the lock that they left, and of the replay after them
abbrev pub after : RecordedLock → List Accepted → Replay → Replayed
after k accepted r = record {
  kind = k.state.kind;
  threads = length k.state.phases;
  accepted = accepted ++ map (λ m. m.accepted) r.made;
  entries = k.entries ++ flat_map (λ m. m.entries) r.made;
  refused = r.refused;
}

-- the view if nothing more is played
abbrev pub so_far : RecordedLock → List Accepted → Option (ℕ × Refusal) → Replayed
so_far k accepted refused = record {
  kind = k.state.kind;
  threads = length k.state.phases;
  accepted = accepted;
  entries = k.entries;
  refused = refused;
}

-- what follows from an answer of `play`
was_accepted : (r : Option Refusal) (o p : Outcome) → IsPlayAnswer r o (Ok p)
    → (r ≡ None) × (p ≡ o)
was_accepted None o p h = (refl, h)
was_accepted (Some x) o p h = absurd h

refused_with : (r : Option Refusal) (o : Outcome) (x : Refusal) → IsPlayAnswer r o (Err (Refused x))
    → r ≡ Some x
refused_with None o x h = absurd h
refused_with (Some y) o x h = ap (λ z. Some z) (sym h)

-- one move more
pub shown_moved : (acc new : List Accepted) (to : Replayed) (k m : RecordedLock) (ms : List Line)
    (i : ℕ) (d : Line) (p : Outcome) → i < length ms
    → IsPlayAnswer (refusal_of k.state (get_or ms i d).thread (get_or ms i d).action)
    (change_of k.state (get_or ms i d).thread (get_or ms i d).action).outcome (Ok p)
    → m ≡ after_play k (get_or ms i d).thread (get_or ms i d).action
    → new ≡ acc ++ accepted_of (get_or ms i d) p ∷ []
    → after k acc (replay_from k.state (drop i ms)) ≡ to
    → after m new (replay_from m.state (drop (i + 1) ms)) ≡ to
shown_moved acc new to k m ms i d p h a e g w =
    let l = get_or ms i d in
    let accepted = was_accepted _ _ _ a in
    let next = at_drop_more (λ (ls : List Line). after k acc (replay_from k.state ls)) ms i d h in
    rw (
      g,
      e,
      accepted.1,
      length-set k.state.phases l.thread (change_of k.state l.thread l.action).phase,
      append_assoc acc,
      append_assoc k.entries,
    )
    (rw accepted.0 at (sym next ∙ w))

-- a refused move
pub shown_stopped : (acc : List Accepted) (to : Replayed) (k m : RecordedLock) (ms : List Line)
    (i : ℕ) (d : Line) (x y : Refusal) (f : PlayFault) → i < length ms
    → IsPlayAnswer (refusal_of k.state (get_or ms i d).thread (get_or ms i d).action)
    (change_of k.state (get_or ms i d).thread (get_or ms i d).action).outcome (Err f)
    → f ≡ Refused x → y ≡ x → m ≡ k
    → after k acc (replay_from k.state (drop i ms)) ≡ to
    → so_far m acc (Some ((get_or ms i d).number, y)) ≡ to
shown_stopped acc to k m ms i d x y f h a e u g w =
    let refused = refused_with _ _ _ (rw e at a) in
    let next = at_drop_more (λ (ls : List Line). after k acc (replay_from k.state ls)) ms i d h in
    rw (u, g) (rw (refused, append-nil acc, append-nil k.entries) at (sym next ∙ w))

-- all moves were played
pub shown_ended : (acc : List Accepted) (to : Replayed) (k : RecordedLock) (ms : List Line) (i : ℕ)
    → length ms ≤ i → after k acc (replay_from k.state (drop i ms)) ≡ to → so_far k acc None ≡ to
shown_ended acc to k ms i all w =
    rw (← append-nil acc, ← append-nil k.entries)
    (sym (at_drop_all (λ (ls : List Line). after k acc (replay_from k.state ls)) ms i all) ∙ w)
