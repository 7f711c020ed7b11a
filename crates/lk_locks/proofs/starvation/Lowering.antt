-- The number of moves, failed polls aside, that a thread can still make while thread t waits in the
-- queue: a thread ahead of t until it has left and polls behind t, another one until it polls.
use Rattle.std.proofs.Common.{◌≡◌, ◌≢◌, ℕ, ◌+◌, ◌-◌, ◌*◌, ◌<◌, ◌≤◌, List, [], ◌∷◌, ◌++◌, Bool, true}
use Rattle.std.proofs.Common.{false, drop, length, set, refl, ap}
use Rattle.lk_locks.specs.{Change.Change, Legal.after_entries, Starvation.IsInQueue, State.phase_at}
use Rattle.lk_locks.specs.{Steps.move_change}
use Rattle.lk_locks.specs.Sequential.{Sequential, has, is_head}
use Rattle.lk_locks.specs.invariants.Locks.{AgreeAs, IsPhaseOf}
use Rattle.lk_locks.specs.invariants.Threads.{EachOnce}
use Rattle.lk_locks.proofs.starvation.Ahead.{is_ahead, ahead_head, ahead_joined, ahead_left}
use Rattle.lk_locks.proofs.starvation.Ahead.{ahead_others, ahead_outside}
use Rattle.lk_locks.proofs.starvation.Totals.{total}
use Rattle.lk_locks.proofs.{Cases.IsTaken, Threads.at_same}
use Rattle.lk_locks.specs.Types.{LockKind, Phase, Move, Outcome, Waits}

-- what a thread in a phase has left, ahead or not: each lock has its own numbers
abbrev pub Left : Type 0
Left = Bool → Phase → ℕ

-- of all threads together
abbrev pub all_left : Left → List Phase → List ℕ → ℕ → ℕ
all_left left ps queue t = total (λ v. left (is_ahead queue t v) (phase_at ps v)) (length ps)

-- one for a move that is no failed poll
abbrev pub cost : Outcome → ℕ
cost Waits = 0
cost outcome = 1

-- A move of thread u from phase p to `next` has this outcome, and leaves this queue. It lowers the
-- moves that u has left, unless it is a failed poll, and leaves those of the others.
pub record IsLower (left : Left) (before after : List ℕ) (t u : ℕ) (p next : Phase)
    (outcome : Outcome) : Type 0 where
  pub others : (v : ℕ) (r : Phase) → v ≢ u
      → left (is_ahead after t v) r ≡ left (is_ahead before t v) r
  pub own : left (is_ahead after t u) next + cost outcome ≤ left (is_ahead before t u) p

-- thread t waits in the queue before and after this move of thread u
pub record IsPassed (kind : LockKind) (bits : ℕ) (ws : List ℕ) (ps : List Phase) (t u : ℕ)
    (p : Phase) (m : Move) : Type 0 where
  pub fits : IsPhaseOf kind (length ps) (phase_at ps t)
  pub waits : IsInQueue (phase_at ps t)
  pub waits_on : IsInQueue (phase_at (set ps u (move_change kind bits ws u p m).phase) t)

-- each move of the lock, beside a thread that waits, is such a move
abbrev pub Lowers : LockKind → Left → Type 0
Lowers kind left =
    (bits : ℕ) (ws : List ℕ) (ps : List Phase) (q : Sequential) (t u : ℕ) (p : Phase) (m : Move)
    → IsTaken kind bits ws ps q u p m → IsPassed kind bits ws ps t u p m
    → let change : Change = move_change kind bits ws u p m in
    IsLower left q.queue (after_entries q change.entries).queue t u p change.phase change.outcome

-- beside a thread that waits, all threads together have few moves left: `most` for each other one
abbrev pub AreFew : LockKind → Left → ℕ → Type 0
AreFew kind left most =
    (bits : ℕ) (ws : List ℕ) (ps : List Phase) (q : Sequential) (t : ℕ) → t < length ps
    → AgreeAs kind (record { kind = kind; bits = bits; words = ws; phases = ps }) q
    → IsPhaseOf kind (length ps) (phase_at ps t) → IsInQueue (phase_at ps t)
    → all_left left ps q.queue t ≤ most * (length ps - 1)

-- a thread that does not wait before a move is another one than a thread that waits
pub not_before : (ps : List Phase) (t u : ℕ) {p : Phase} → phase_at ps u ≡ p → (IsInQueue p → ⊥)
    → IsInQueue (phase_at ps t) → u ≢ t
not_before ps t u was no_wait waits same = no_wait (rw (← same, was) at waits)

-- so is one that does not wait after it
pub not_after : (ps : List Phase) (t u : ℕ) (next : Phase) → u < length ps → (IsInQueue next → ⊥)
    → IsInQueue (phase_at (set ps u next) t) → u ≢ t
not_after ps t u next in_lock no_wait waits same =
    no_wait (rw (← same, at_same ps u next in_lock) at waits)

module _ {left : Left} {queue : List ℕ} {t u : ℕ} {p next : Phase} {outcome : Outcome} where
  -- a move that leaves the queue as it is, wherever its thread is
  pub anywhere : ((ahead : Bool) → left ahead next + cost outcome ≤ left ahead p)
      → IsLower left queue queue t u p next outcome
  anywhere lower = record { others = λ v r differs. refl; own = lower (is_ahead queue t u) }

  -- a move of a thread that is not in the queue
  pub outside : has queue u ≡ false
      → left false next + cost outcome ≤ left false p
      → IsLower left queue queue t u p next outcome
  outside absent lower = record {
    others = λ v r differs. refl;
    own = rw (ahead_outside queue t u absent) lower;
  }

  -- a move by which a thread joins the queue
  pub joins : has queue t ≡ true → has queue u ≡ false
      → left false next + cost outcome ≤ left false p
      → IsLower left queue (queue ++ u ∷ []) t u p next outcome
  joins queued absent lower = record {
    others =
        λ v r differs. ap (λ ahead. left ahead r) (ahead_joined queue t u v queued);
    own = rw (ahead_joined queue t u u queued, ahead_outside queue t u absent) lower;
  }

  -- a move of the head, which stays
  pub head_moves : is_head queue u ≡ true → u ≢ t
      → left true next + cost outcome ≤ left true p
      → IsLower left queue queue t u p next outcome
  head_moves head differs lower = record {
    others = λ v r other. refl;
    own = rw (ahead_head queue t u head differs) lower;
  }

  -- a move by which the head leaves
  pub head_leaves : EachOnce queue → is_head queue u ≡ true → u ≢ t
      → left false next + cost outcome ≤ left true p
      → IsLower left queue (drop 1 queue) t u p next outcome
  head_leaves once head differs lower = record {
    others =
        λ v r other.
        ap (λ ahead. left ahead r) (ahead_others queue t u v head differs other);
    own = rw (ahead_left queue t u once head, ahead_head queue t u head differs) lower;
  }
