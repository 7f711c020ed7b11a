-- A thread without a step that is due would wait.
use Rattle.std.proofs.Common.{◌≡◌, ℕ, List, None, arith}
use Rattle.lk_locks.specs.Locks.{effect_of, step_of}
use Rattle.lk_locks.specs.declared.kinds.LockKind.{LockKind}
use Rattle.lk_locks.specs.declared.kinds.LockKind.TheVariants.{Mcs, RwFifo, RwSimple, Ticket}
use Rattle.lk_locks.specs.declared.kinds.Outcome.TheVariants.{Waits}
use Rattle.lk_locks.specs.declared.kinds.Phase.{Phase}

pub would_wait : (kind : LockKind) (bits : ℕ) (ws : List ℕ) (t : ℕ) (p : Phase)
    → effect_of kind bits ws t p ≡ None → (step_of kind bits ws t p).outcome ≡ Waits
would_wait Ticket bits ws t p none = grind arith
would_wait Mcs bits ws t p none = grind arith
would_wait RwSimple bits ws t p none = grind arith
would_wait RwFifo bits ws t p none = grind arith
