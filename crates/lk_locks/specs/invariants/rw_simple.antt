-- Invariants. The simple read-write lock: its phases, and how its words agree with the holders of
-- its sequential object.
use Rattle.std.specs.Prelude.{◌≡◌, ℕ, List, slice_index, Bool, false}
use Rattle.lk_locks.specs.Sequential.{Sequential}
use Rattle.lk_locks.specs.rw_simple.{readers, flag}
use Rattle.lk_locks.specs.invariants.read_write.{AgreeAsCounted}
use Rattle.lk_locks.specs.invariants.rw_fifo
use Rattle.lk_locks.specs.Types.{Phase, AwaitReaders}

-- no writer announces itself
abbrev pub is_phase : Phase → Bool
is_phase AwaitReaders = false
is_phase p = rw_fifo.is_phase p

-- the words count the readers
abbrev pub Count : List ℕ → ℕ → Type 0
Count ws n = slice_index ws readers ≡ n

abbrev pub AgreesWith : ℕ → List ℕ → List Phase → Sequential → Type 0
AgreesWith bits ws ps q = AgreeAsCounted (Count ws) (slice_index ws flag) bits ps q
