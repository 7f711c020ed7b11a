-- Definitions. The types of the code that definitions and proofs of this crate are about, by name.
pub use Rattle.lk_locks.specs.declared.kinds.Act.{Act}
pub use Rattle.lk_locks.specs.declared.kinds.Entry.{Entry}
pub use Rattle.lk_locks.specs.declared.kinds.Entry.TheVariants.{Acted, Announced, Returned}
pub use Rattle.lk_locks.specs.declared.kinds.Family.{Family}
pub use Rattle.lk_locks.specs.declared.kinds.Family.TheVariants.{FifoReadWrite, Queue, ReadWrite}
pub use Rattle.lk_locks.specs.declared.kinds.LockKind.{LockKind}
pub use Rattle.lk_locks.specs.declared.kinds.LockKind.TheVariants.{Mcs, RwFifo, RwSimple, Ticket}
pub use Rattle.lk_locks.specs.declared.kinds.Move.{Move}
pub use Rattle.lk_locks.specs.declared.kinds.Move.TheVariants.{Call, Step}
pub use Rattle.lk_locks.specs.declared.kinds.Op.{Op}
pub use Rattle.lk_locks.specs.declared.kinds.Op.TheVariants.{Downgrade, ReadUnlock, WriteUnlock}
pub use Rattle.lk_locks.specs.declared.kinds.Op.TheVariants.{Acquire, ReadLock, Release, WriteLock}
pub use Rattle.lk_locks.specs.declared.kinds.Outcome.{Outcome}
pub use Rattle.lk_locks.specs.declared.kinds.Outcome.TheVariants.{Called, Entered, Left, Moved}
pub use Rattle.lk_locks.specs.declared.kinds.Outcome.TheVariants.{Waits}
pub use Rattle.lk_locks.specs.declared.kinds.Phase.{Phase}
pub use Rattle.lk_locks.specs.declared.kinds.Phase.TheVariants.{AwaitGrant, AwaitLink, AwaitReaders}
pub use Rattle.lk_locks.specs.declared.kinds.Phase.TheVariants.{AwaitTurn, CasTail, ClearNext}
pub use Rattle.lk_locks.specs.declared.kinds.Phase.TheVariants.{Grant, Idle, LeaveRead, LeaveWrite}
pub use Rattle.lk_locks.specs.declared.kinds.Phase.TheVariants.{LinkTo, McsInside, PassOn, ReadNext}
pub use Rattle.lk_locks.specs.declared.kinds.Phase.TheVariants.{ReadServing, Reading, SetLocked}
pub use Rattle.lk_locks.specs.declared.kinds.Phase.TheVariants.{SwapTail, TakeTicket, TicketInside}
pub use Rattle.lk_locks.specs.declared.kinds.Phase.TheVariants.{TryDowngrade, TryRead, TryWrite}
pub use Rattle.lk_locks.specs.declared.kinds.Phase.TheVariants.{Writing}
pub use Rattle.lk_locks.specs.declared.kinds.Refusal.{Refusal}
pub use Rattle.lk_locks.specs.declared.kinds.Refusal.TheVariants.{AlreadyHolds, Busy, NoCall}
pub use Rattle.lk_locks.specs.declared.kinds.Refusal.TheVariants.{NoSuchThread, NotHolder}
pub use Rattle.lk_locks.specs.declared.kinds.Refusal.TheVariants.{WrongLock, WrongStep}
pub use Rattle.lk_locks.specs.declared.kinds.SectionEffect.{SectionEffect}
pub use Rattle.lk_locks.specs.declared.kinds.StepEffect.{StepEffect}
pub use Rattle.lk_locks.specs.declared.kinds.StepEffect.TheVariants.{Monitor, OneWord}
pub use Rattle.lk_locks.specs.declared.kinds.StepKind.{StepKind}
pub use Rattle.lk_locks.specs.declared.kinds.StepKind.TheVariants.{Add, Cas, Read, Section, Swap}
pub use Rattle.lk_locks.specs.declared.kinds.StepKind.TheVariants.{Write}
