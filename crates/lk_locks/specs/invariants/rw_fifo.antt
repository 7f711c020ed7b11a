-- Invariants. The FIFO read-write lock: its phases, and how its words agree with the holders of its
-- sequential object.
use Rattle.std.specs.Prelude.{◌≡◌, ℕ, ◌+◌, ◌%◌, ◌^◌, ◌<◌, List, slice_index, Bool, true, ◌||◌}
use Rattle.lk_locks.specs.Sequential.{Sequential}
use Rattle.lk_locks.specs.rw_fifo.{read_acquires, read_releases, flag}
use Rattle.lk_locks.specs.invariants.read_write.{AgreeAsCounted, is_reading, is_writing}
use Rattle.lk_locks.specs.invariants.read_write.{is_announced}
use Rattle.lk_locks.specs.Types.{Phase, Idle, TryRead, TryWrite}

-- a thread is idle, or tries to enter, or is inside, or has announced itself
abbrev pub is_phase : Phase → Bool
is_phase Idle = true
is_phase TryRead = true
is_phase TryWrite = true
is_phase p = is_reading p || (is_writing p || is_announced p)

-- The words count the readers that entered and those that left. There are fewer threads than a
-- count has values, so the counts are equal if and only if there is no reader.
pub record Count (bits : ℕ) (ws : List ℕ) (n : ℕ) : Type 0 where
  pub left : slice_index ws read_releases < 2 ^ bits
  pub came : slice_index ws read_acquires ≡ (slice_index ws read_releases + n) % 2 ^ bits

abbrev pub AgreesWith : ℕ → List ℕ → List Phase → Sequential → Type 0
AgreesWith bits ws ps q = AgreeAsCounted (Count bits ws) (slice_index ws flag) bits ps q
