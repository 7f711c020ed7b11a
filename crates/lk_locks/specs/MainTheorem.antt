-- Definitions. The theorem of this project, for every list of moves on a new lock: the history is
-- legal, and so exclusive and in order.
use Rattle.std.specs.Prelude.{◌≡◌, ℕ, ◌<◌, ◌≤◌, ◌^◌, List, length, slice_index}
use Rattle.lk_locks.specs.Legal.{Legal}
use Rattle.lk_locks.specs.Locks.{word_count}
use Rattle.lk_locks.specs.Steps.{entries_after}
use Rattle.lk_locks.specs.State.{start}
use Rattle.lk_locks.specs.Exclusion.{HasOneHolder, HasOneWriter, IsNeverBesideReader}
use Rattle.lk_locks.specs.Order.{IsInOrder}
use Rattle.lk_locks.specs.Types.{LockKind, Move, Entry}

-- A history of n threads on a lock of this kind is legal. So a queue lock has at most one holder
-- and is entered in the order of its tickets or swaps, and there are never two writers, and never a
-- writer together with a reader.
pub record IsAsPromised (kind : LockKind) (n : ℕ) (es : List Entry) : Type 0 where
  pub legal : Legal kind n es
  pub one_holder : HasOneHolder es
  pub in_order : IsInOrder es
  pub one_writer : HasOneWriter es
  pub no_reader_beside : IsNeverBesideReader kind es

-- each list of moves on a new lock, with enough words, all 0, leaves such a history; a refused move
-- changes nothing
abbrev pub EveryRunIsAsPromised : Type 0
EveryRunIsAsPromised =
    (kind : LockKind) (bits : ℕ) (ws : List ℕ) (n : ℕ) (ms : List (ℕ × Move))
    → n ≤ 64 → n < 2 ^ bits → word_count kind n ≤ length ws
    → ((i : ℕ) → i < length ws → slice_index ws i ≡ 0)
    → IsAsPromised kind n (entries_after (start kind bits ws n) ms)
