-- The proof for each lock. The proofs that the locks share rest on it, and know no lock.
use Rattle.lk_locks.proofs.Cases.{LockProof}
use Rattle.lk_locks.proofs.invariants.mcs
use Rattle.lk_locks.proofs.invariants.rw_fifo
use Rattle.lk_locks.proofs.invariants.rw_simple
use Rattle.lk_locks.proofs.invariants.ticket
use Rattle.lk_locks.specs.Types.{LockKind, Ticket, Mcs, RwSimple, RwFifo}

-- each of the four locks is proved by a module of its own
pub proof_of : (kind : LockKind) → LockProof kind
proof_of Ticket = ticket.proof
proof_of Mcs = mcs.proof
proof_of RwSimple = rw_simple.proof
proof_of RwFifo = rw_fifo.proof
