-- Invariants. The invariant of a sequential object; and that of a lock, its sequential object and
-- its history after every list of moves.
use Rattle.std.specs.Prelude.{◌≡◌, ℕ, ◌<◌, ◌≤◌, List, ◌++◌, length, None}
use Rattle.std.specs.List.{flat_map, AllByRecursion}
use Rattle.lk_locks.specs.State.{State, phase_at}
use Rattle.lk_locks.specs.Sequential.{Sequential, IsAscending, nobody, thread_of}
use Rattle.lk_locks.specs.Legal.{AreEnabled, after_entries, subhistory, whole_call}
use Rattle.lk_locks.specs.Holding.{holder_after}
use Rattle.lk_locks.specs.Play.{Tracked}
use Rattle.lk_locks.specs.invariants.Locks.{AgreeAs, owed_of}
use Rattle.lk_locks.specs.invariants.Threads.{AreThreads}
use Rattle.lk_locks.specs.invariants.WellFormed.{WellFormed}
use Rattle.lk_locks.specs.invariants.read_write.{IsAlone}
use Rattle.lk_locks.specs.Types.{LockKind, Phase, Op, Entry}

pub record IsSequential (q : Sequential) : Type 0 where
  pub queue : AreThreads q.queue
  pub readers : AreThreads q.readers
  pub ascending : IsAscending q.readers
  pub alone : IsAlone q.writer q.readers q.announced

-- thread t's entries, with the rest of its pending call, are whole calls
abbrev pub IsInTurn : LockKind → List Entry → ℕ → Phase → Type 0
IsInTurn kind es t p =
    (ops : List Op) × (subhistory t es ++ owed_of kind t p ≡ flat_map (whole_call kind t) ops)

pub record Kept (s : State) (q : Sequential) (es : List Entry) : Type 0 where
  pub well : WellFormed s
  pub few : length s.phases ≤ 64
  pub kind : q.kind ≡ s.kind
  pub now : after_entries (nobody s.kind) es ≡ q
  pub allowed : AreEnabled (nobody s.kind) es
  pub turns : (t : ℕ) → t < length s.phases → IsInTurn s.kind es t (phase_at s.phases t)
  pub no_others : AllByRecursion (λ e. thread_of e < length s.phases) es
  pub agree : AgreeAs s.kind s q

-- a lock agrees with its history
pub record IsRecorded (k : Tracked) (es : List Entry) : Type 0 where
  pub kept : Kept k.state k.sequential es
  pub holder : k.holder ≡ holder_after None es

-- words, phases and sequential object are those that some history leaves
abbrev pub IsTracked : State → Sequential → Type 0
IsTracked s q = (es : List Entry) × Kept s q es
