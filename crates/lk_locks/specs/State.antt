-- Definitions. The state of a lock: its kind, its words, and the phase of each thread.
use Rattle.std.specs.Prelude.{ℕ, List, slice_index_or, replicate}
use Rattle.lk_locks.specs.Locks.{word_count}
use Rattle.lk_locks.specs.Types.{LockKind, Phase, Idle}

-- the words are below 2 ^ bits, and there is a phase for each thread
pub record State : Type 0 where
  pub kind : LockKind
  pub bits : ℕ
  pub words : List ℕ
  pub phases : List Phase

-- the phase of thread t
abbrev pub phase_at : List Phase → ℕ → Phase
phase_at phases t = slice_index_or phases t Idle

-- at the start all threads are idle. The words are the caller's, all 0
abbrev pub start : LockKind → ℕ → List ℕ → ℕ → State
start kind bits ws n = record { kind = kind; bits = bits; words = ws; phases = replicate n Idle }

-- the parameters of a new lock
pub record Shape : Type 0 where
  pub kind : LockKind
  pub threads : ℕ
  pub bits : ℕ

-- the state at the start, on as many words as the lock needs
abbrev pub start_of : Shape → State
start_of s = start s.kind s.bits (replicate (word_count s.kind s.threads) 0) s.threads

-- the same lock with these words and phases
abbrev pub put_back : State → List ℕ → List Phase → State
put_back s ws ps = record s { words = ws; phases = ps }
