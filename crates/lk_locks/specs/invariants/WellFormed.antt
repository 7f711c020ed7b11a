-- Invariants. The invariant of each state of a machine, after any moves.
use Rattle.std.specs.Prelude.{◌≡◌, ℕ, ◌^◌, ◌<◌, ◌≤◌, List, length}
use Rattle.lk_locks.specs.State.{State, phase_at}
use Rattle.lk_locks.specs.Locks.{word_count}
use Rattle.lk_locks.specs.invariants.Locks.{IsPhaseOf, AreLinks}
use Rattle.lk_locks.specs.Types.{LockKind, Phase}

pub record WellFormed (s : State) : Type 0 where
  pub enough : word_count s.kind (length s.phases) ≤ length s.words
  pub phases_fit : (t : ℕ) → t < length s.phases
      → IsPhaseOf s.kind (length s.phases) (phase_at s.phases t)
  pub links_fit : AreLinks s.kind (length s.phases) s.words

pub record IsMachine (threads : ℕ) (s : State) : Type 0 where
  pub few : threads ≤ 64
  pub narrow : threads < 2 ^ s.bits
  pub count : length s.phases ≡ threads
  pub well : WellFormed s

-- the facts that a step of thread t in phase p may rest on, with some number of threads
pub record IsReady (kind : LockKind) (bits : ℕ) (ws : List ℕ) (t : ℕ) (p : Phase) : Type 0 where
  pub threads : ℕ
  pub thread : t < threads
  pub few : threads ≤ 64
  pub narrow : threads < 2 ^ bits
  pub enough : word_count kind threads ≤ length ws
  pub phase_fits : IsPhaseOf kind threads p
  pub links_fit : AreLinks kind threads ws
