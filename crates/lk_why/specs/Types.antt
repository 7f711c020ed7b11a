-- Definitions. The types of the code that definitions and proofs of this crate are about, by name.
pub use Rattle.lk_why.specs.declared.change.Change.{Change}
pub use Rattle.lk_why.specs.declared.change.How.{How}
pub use Rattle.lk_why.specs.declared.change.How.TheVariants.{Exchange, Find, LeaveOut, Return}
pub use Rattle.lk_why.specs.declared.change.How.TheVariants.{Split, Wait}
pub use Rattle.lk_why.specs.declared.change.Found.{Found}
pub use Rattle.lk_why.specs.declared.change.Found.TheVariants.{ClearFlag, NoReader, Own, Zero}
pub use Rattle.lk_why.specs.declared.change.Written.{Written}
pub use Rattle.lk_why.specs.declared.change.Written.TheVariants.{All, Counts, Flag}
pub use Rattle.lk_why.specs.declared.change.PhaseName.{PhaseName}
pub use Rattle.lk_locks.specs.declared.kinds.Act.{Act}
pub use Rattle.lk_locks.specs.declared.kinds.Entry.{Entry}
pub use Rattle.lk_locks.specs.declared.kinds.Entry.TheVariants.{Acted, Announced, Returned}
pub use Rattle.lk_locks.specs.declared.kinds.Family.{Family}
pub use Rattle.lk_locks.specs.declared.kinds.Family.TheVariants.{FifoReadWrite, Queue, ReadWrite}
pub use Rattle.lk_locks.specs.declared.kinds.LockKind.{LockKind}
pub use Rattle.lk_locks.specs.declared.kinds.LockKind.TheVariants.{Mcs, RwFifo, RwSimple, Ticket}
pub use Rattle.lk_locks.specs.declared.kinds.Move.{Move}
pub use Rattle.lk_locks.specs.declared.kinds.Move.TheVariants.{Call, Step}
pub use Rattle.lk_locks.specs.declared.kinds.Op.{Op}
pub use Rattle.lk_locks.specs.declared.kinds.Op.TheVariants.{Acquire, Downgrade, ReadLock}
pub use Rattle.lk_locks.specs.declared.kinds.Op.TheVariants.{ReadUnlock, Release, WriteLock}
pub use Rattle.lk_locks.specs.declared.kinds.Op.TheVariants.{WriteUnlock}
pub use Rattle.lk_locks.specs.declared.kinds.Outcome.{Outcome}
pub use Rattle.lk_locks.specs.declared.kinds.Outcome.TheVariants.{Entered, Left, Moved, Waits}
pub use Rattle.lk_locks.specs.declared.kinds.Phase.{Phase}
pub use Rattle.lk_locks.specs.declared.kinds.Phase.TheVariants.{AwaitGrant, AwaitLink}
pub use Rattle.lk_locks.specs.declared.kinds.Phase.TheVariants.{AwaitReaders, AwaitTurn, CasTail}
pub use Rattle.lk_locks.specs.declared.kinds.Phase.TheVariants.{ClearNext, Grant, Idle, LeaveRead}
pub use Rattle.lk_locks.specs.declared.kinds.Phase.TheVariants.{LeaveWrite, LinkTo, PassOn}
pub use Rattle.lk_locks.specs.declared.kinds.Phase.TheVariants.{ReadNext, ReadServing, Reading}
pub use Rattle.lk_locks.specs.declared.kinds.Phase.TheVariants.{SetLocked, SwapTail, TakeTicket}
pub use Rattle.lk_locks.specs.declared.kinds.Phase.TheVariants.{TicketInside, TryDowngrade}
pub use Rattle.lk_locks.specs.declared.kinds.Phase.TheVariants.{TryRead, TryWrite, Writing}
pub use Rattle.lk_locks.specs.declared.kinds.StepKind.{StepKind}
pub use Rattle.lk_locks.specs.declared.kinds.StepKind.TheVariants.{Add}
