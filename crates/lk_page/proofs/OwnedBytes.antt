-- The places and the name of a thread's record fit into bytes.
use Rattle.std.proofs.Common.{ℕ, ◌<◌, arith}
use Rattle.lk_locks.specs.declared.kinds.LockKind.{LockKind}
use Rattle.lk_locks.specs.declared.kinds.LockKind.TheVariants.{Ticket}
use Rattle.lk_page.specs.Owned.{next_word, locked_word, record_name}

pub record AreBytes (kind : LockKind) (bits t : ℕ) : Type 0 where
  pub next : next_word kind bits t < 256
  pub locked : locked_word kind bits t < 256
  pub name : record_name kind bits t < 256

pub are_bytes : (kind : LockKind) (bits t : ℕ) → t < 64 → AreBytes kind bits t
are_bytes Ticket bits t h = record { next = omega arith; locked = omega arith; name = omega arith }
are_bytes kind bits t h = record { next = omega arith; locked = omega arith; name = omega arith }
