-- No run is stuck: after any moves a lock comes to rest.
use Rattle.std.proofs.Common.{IfNone, IfSome, List, None, Option, Some, [], ◌∷◌, arith, inl, inr}
use Rattle.std.proofs.Common.{is_none, length, refl, ℕ, ◌<◌, ◌↔◌}
use Rattle.std.proofs.Common.{◌++◌, ◌⊎◌, ◌≡◌, ◌≢◌, zero, suc}
use Rattle.std.proofs.lemmas.Bool.{cond_both}
use Rattle.lk_locks.specs.Progress.{CanFinish, ComesToRest, IsAtRest, NoRunIsStuck}
use Rattle.lk_locks.specs.Progress.{IsFinishing, state_after}
use Rattle.lk_locks.specs.{Legal.after_entries, Sequential.Sequential, Sequential.nobody}
use Rattle.lk_locks.specs.State.{State, phase_at, start}
use Rattle.lk_locks.specs.Steps.{after_move, change_of, next_state, refusal_of}
use Rattle.lk_locks.specs.invariants.Kept.{IsTracked, Kept}
use Rattle.lk_locks.specs.Types.{Entry, LockKind, Mcs, Move, Phase, Idle, RwFifo, RwSimple, Ticket}
use Rattle.lk_locks.proofs.Keeping.{keeps}
use Rattle.lk_locks.proofs.Machines.{kept_start}
use Rattle.lk_locks.proofs.Moves.{accepted_of}
use Rattle.lk_locks.proofs.Requests.{none_is}
use Rattle.lk_locks.proofs.progress.mcs
use Rattle.lk_locks.proofs.progress.rw_fifo
use Rattle.lk_locks.proofs.progress.rw_simple
use Rattle.lk_locks.proofs.progress.ticket
use Rattle.lk_locks.proofs.progress.Falling.{all_fall, near}
use Rattle.lk_locks.proofs.progress.Going.{SomeoneCan, at_rest}

-- each of the four locks is proved by a module of its own
someone_can : (kind : LockKind) → SomeoneCan kind
someone_can Ticket = ticket.someone
someone_can Mcs = mcs.someone
someone_can RwSimple = rw_simple.someone
someone_can RwFifo = rw_fifo.someone

is_idle : (p : Phase) → (p ≡ Idle) ⊎ (p ≢ Idle)
is_idle Idle = inl refl
is_idle p = inr (λ same. cc)

-- one more idle thread
one_more : (p : Phase) (ps : List Phase) → p ≡ Idle
    → ((t : ℕ) → t < length ps → phase_at ps t ≡ Idle) → (t : ℕ) → t < length (p ∷ ps)
    → phase_at (p ∷ ps) t ≡ Idle
one_more p ps idle others zero within = idle
one_more p ps idle others (suc t) within = others t (omega arith)

-- all threads are idle, or one is not
some_busy : (ps : List Phase)
    → ((t : ℕ) → t < length ps → phase_at ps t ≡ Idle) ⊎ ((t : ℕ) × (phase_at ps t ≢ Idle))
some_busy [] = inl (λ t within. absurd (omega arith))
some_busy (p ∷ ps) = elim (is_idle p) [
  | inr busy ↦ inr (0, busy)
  | inl idle ↦ elim (some_busy ps) [
    | inr (t, busy) ↦ inr (suc t, busy)
    | inl all_idle ↦ inl (one_more p ps idle all_idle)
  ]
]

-- unless all threads of a lock are idle, some thread can go on
pub rests_or_goes : (s : State) (q : Sequential) (es : List Entry) → Kept s q es
    → IsAtRest s ⊎ CanFinish s
rests_or_goes s q es kept = elim (some_busy s.phases) [
  | inl all_idle ↦ inl all_idle
  | inr (t, busy) ↦ inr
      (someone_can s.kind s.bits s.words s.phases q t (phase_at s.phases t) kept.well kept.agree
      refl busy)
]

-- some history leads to this state
abbrev pub HasHistory : State → Type 0
HasHistory s = (q : Sequential) × IsTracked s q

-- so it does to the state after a move, refused or not
history_on : (s : State) (t : ℕ) (m : Move) → HasHistory s → HasHistory (after_move s t m)
history_on s t m (q, (es, kept)) =
    let new : List Entry = (change_of s t m).entries in
    cond_both (is_none (refusal_of s t m)) (next_state s t m) s HasHistory
    (λ accepted. (
      after_entries q new,
      (es ++ new, keeps s q es t m kept (accepted_of s t m (none_is _ accepted))),
    ))
    (λ refused. (q, (es, kept)))

pub history_after : (s : State) (ms : List (ℕ × Move)) → HasHistory s
    → HasHistory (state_after s ms)
history_after s [] past = past
history_after s (m ∷ ms) past =
    history_after (after_move s m.0 m.1) ms (history_on s m.0 m.1 past)

-- so finishing moves are few, and after them all threads are idle, or there is one more
pub comes_to_rest : (s : State) → HasHistory s → ComesToRest s
comes_to_rest s past ms finishing =
    let (q, (es, kept)) = past in
    let (r, (fs, still)) = history_after s ms past in (
      omega (arith, all_fall s ms finishing, near s kept.well),
      rests_or_goes (state_after s ms) r fs still,
    )

pub no_run_is_stuck : NoRunIsStuck
no_run_is_stuck kind bits ws n ms few narrow enough clear =
    comes_to_rest _
    (history_after (start kind bits ws n) ms
    (nobody kind, ([], kept_start kind bits ws n few narrow enough clear)))

-- so a search for a finishing move that finds none if there is none finds one unless all are idle
pub none_at_rest : (s : State) (q : Sequential) (found : Option (ℕ × Move)) → IsTracked s q
    → IfSome found (λ chosen. IsFinishing s chosen.0 chosen.1) → IfNone found (¬ CanFinish s)
    → found ≡ None ↔ IsAtRest s
none_at_rest s q None (es, kept) finishing none = (
  λ same. elim (rests_or_goes s q es kept) [ inl rests ↦ rests | inr can ↦ absurd (none can) ],
  λ rests. refl,
)
none_at_rest s q (Some (t, m)) (es, kept) finishing none = (
  λ same t within. cc,
  λ rests. absurd
      (at_rest s rests (record { thread = t; move = m; finishing = finishing })),
)
