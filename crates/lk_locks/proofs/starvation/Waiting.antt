-- No thread in a queue starves: each move but a failed poll lowers the number of those that can
-- still be made around it.
use Rattle.std.proofs.Common.{◌∙◌, Bool, List, [], arith, if◌then◌else◌, inl, inr, is_none, length}
use Rattle.std.proofs.Common.{not, refl, set, ℕ, ◌&&◌, ◌+◌, ◌<◌, ◌∷◌, ◌≡◌, ◌≤◌}
use Rattle.std.proofs.lemmas.Bool.{cases_lt, cond_both}
use Rattle.std.proofs.lemmas.List.{get_or_past, length-set}
use Rattle.lk_locks.specs.{Legal.after_entries, invariants.Kept.Kept}
use Rattle.lk_locks.specs.Progress.{is_wait, state_after}
use Rattle.lk_locks.specs.Sequential.{Sequential, nobody}
use Rattle.lk_locks.specs.Starvation.{IsInQueue, IsReached, IsStarvationFree, KeepsWaiting}
use Rattle.lk_locks.specs.Starvation.{count_in, goes_on}
use Rattle.lk_locks.specs.State.{State, phase_at, start}
use Rattle.lk_locks.specs.Steps.{accepts, after_move, change_of, next_state, refusal_of}
use Rattle.lk_locks.proofs.Acceptance.{accepts_unless_refused}
use Rattle.lk_locks.proofs.starvation.Ahead.{is_ahead}
use Rattle.lk_locks.proofs.Keeping.{keeps, taken_of}
use Rattle.lk_locks.proofs.{Machines.kept_start, Requests.none_is}
use Rattle.lk_locks.proofs.Moves.{Accepted, accepted_of}
use Rattle.lk_locks.proofs.progress.Resting.{HasHistory, history_after}
use Rattle.lk_locks.proofs.Threads.{at_other, at_same}
use Rattle.lk_locks.proofs.starvation.Totals.{total_change}
use Rattle.lk_locks.proofs.starvation.Lowering.{AreFew, IsLower, Left, Lowers, all_left, cost}
use Rattle.lk_locks.specs.Types.{Entry, LockKind, Idle, Move, Outcome, Phase}

-- the moves that are left around a thread in this state
abbrev left_in : Left → State → Sequential → ℕ → ℕ
left_in left s q t = all_left left s.phases q.queue t

-- a move that lowers those of its thread, and leaves those of the others, lowers those of all
lower_all : (left : Left) (ps : List Phase) (before after : List ℕ) (t u : ℕ) (next : Phase)
    (outcome : Outcome) → u < length ps
    → IsLower left before after t u (phase_at ps u) next outcome
    → all_left left (set ps u next) after t + cost outcome ≤ all_left left ps before t
lower_all left ps before after t u next outcome in_lock lower =
    let was : ℕ → ℕ = λ v. left (is_ahead before t v) (phase_at ps v) in
    let now : ℕ → ℕ = λ v. left (is_ahead after t v) (phase_at (set ps u next) v) in
    let own : now u ≡ left (is_ahead after t u) next =
    rw (at_same ps u next in_lock) refl in
    rw (length-set ps u next)
    (omega (
      arith,
      total_change was now (length ps) u in_lock
          (λ v differs. rw (at_other ps u v next differs) (lower.others v (phase_at ps v) differs)),
      own,
      lower.own,
    ))

-- a thread in the queue is one of the lock's
in_lock_of : (ps : List Phase) (t : ℕ) → IsInQueue (phase_at ps t) → t < length ps
in_lock_of ps t waits = elim (cases_lt t (length ps)) [
  | inl below ↦ below
  | inr past ↦ absurd (rw (get_or_past ps t Idle past) at waits)
]

-- an accepted move beside a thread that waits
move_lowers : (left : Left) (s : State) (q : Sequential) (es : List Entry) (t u : ℕ) (m : Move)
    → Lowers s.kind left → Kept s q es → Accepted s u m → IsInQueue (phase_at s.phases t)
    → IsInQueue (phase_at (next_state s u m).phases t)
    → left_in left (next_state s u m) (after_entries q (change_of s u m).entries) t
    + cost (change_of s u m).outcome
    ≤ left_in left s q t
move_lowers left s q es t u m lowers kept accepted waits waits_on =
    lower_all left s.phases q.queue _ t u (change_of s u m).phase (change_of s u m).outcome
    accepted.thread
    (lowers s.bits s.words s.phases q t u (phase_at s.phases u) m
    (taken_of s q es u m kept accepted)
    (record {
      fits = kept.well.phases_fit t (in_lock_of s.phases t waits);
      waits = waits;
      waits_on = waits_on;
    }))

-- a thread that keeps waiting waits now
waits_now : (t : ℕ) (s : State) (ms : List (ℕ × Move)) → KeepsWaiting IsInQueue t s ms
    → IsInQueue (phase_at s.phases t)
waits_now t s [] waits = waits
waits_now t s (m ∷ ms) waits = waits.0

-- a move that goes on is accepted, and costs one
costs : (accepted : Bool) (outcome : Outcome)
    → (if accepted && not (is_wait outcome) then 1 else 0) ≤ cost outcome
costs accepted outcome = grind arith

-- the moves that go on while a thread waits are among those that were left around it
goes_on_most : (left : Left) (ms : List (ℕ × Move)) (s : State) (q : Sequential)
    (es : List Entry) (t : ℕ)
    → Lowers s.kind left → Kept s q es → KeepsWaiting IsInQueue t s ms
    → count_in goes_on s ms ≤ left_in left s q t
goes_on_most left [] s q es t lowers kept waits = omega arith
goes_on_most left ((u, m) ∷ ms) s q es t lowers kept (waits, waits_on) =
    cond_both (is_none (refusal_of s u m)) (next_state s u m) s
    (λ next. KeepsWaiting IsInQueue t next ms
    → (if accepts s u m && goes_on s u m then 1 else 0) + count_in goes_on next ms
    ≤ left_in left s q t)
    (λ free waits_on.
    let accepted = accepted_of s u m (none_is _ free) in
    omega (
      arith,
      costs (accepts s u m) (change_of s u m).outcome,
      move_lowers left s q es t u m lowers kept accepted waits
          (waits_now t (next_state s u m) ms waits_on),
      goes_on_most left ms (next_state s u m) _ _ t lowers (keeps s q es u m kept accepted)
          waits_on,
    ))
    (λ refused waits_on.
    rw (accepts_unless_refused s u m, refused)
    (omega (arith, goes_on_most left ms s q es t lowers kept waits_on)))
    waits_on

-- moves do not change the kind of the lock
kind_after : (s : State) (ms : List (ℕ × Move)) → (state_after s ms).kind ≡ s.kind
kind_after s [] = refl
kind_after s (m ∷ ms) =
    kind_after (after_move s m.0 m.1) ms
    ∙ cond_both (is_none (refusal_of s m.0 m.1)) (next_state s m.0 m.1) s
    (λ next. next.kind ≡ s.kind) (λ free. refl) (λ refused. refl)

module _ (kind : LockKind) (n : ℕ) (s : State) (reached : IsReached kind n s) where
  -- each state that a run reaches is one of this lock, with a history
  reached_kind : s.kind ≡ kind
  reached_kind =
      rw (← reached.leads) (kind_after (start kind reached.bits reached.words n) reached.moves)

  reached_history : HasHistory s
  reached_history =
      rw (← reached.leads)
      (history_after (start kind reached.bits reached.words n) reached.moves (
        nobody kind,
        (
          [],
          kept_start kind reached.bits reached.words n reached.few reached.narrow reached.enough
              reached.clear,
        ),
      ))

  -- and has at most 64 threads
  pub few_threads : length s.phases ≤ 64
  few_threads = let (q, (es, kept)) = reached_history in kept.few

-- a lock whose moves lower what is left, which is little, is free of starvation
pub starvation_free : (kind : LockKind) (left : Left) (most : ℕ) → Lowers kind left
    → AreFew kind left most → IsStarvationFree kind most
starvation_free kind left most lowers few n s t ms reached waits =
    let is : s.kind ≡ kind = reached_kind kind n s reached in
    let (q, (es, kept)) = reached_history kind n s reached in
    let now : IsInQueue (phase_at s.phases t) = waits_now t s ms waits in
    let in_lock : t < length s.phases = in_lock_of s.phases t now in
    omega (
      arith,
      goes_on_most left ms s q es t (rw is lowers) kept waits,
      (rw (← is) at few) s.bits s.words s.phases q t in_lock kept.agree
          (kept.well.phases_fit t in_lock) now,
    )
