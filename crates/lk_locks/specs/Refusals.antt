-- Definitions. The name, the message and the text of each refusal.
use Rattle.std.specs.Prelude.{ℕ, List, ◌++◌, codes}
use Rattle.lk_locks.specs.Types.{Refusal, NoSuchThread, WrongLock, Busy, NotHolder, AlreadyHolds}
use Rattle.lk_locks.specs.Types.{NoCall, WrongStep}

abbrev pub name_of : Refusal → List ℕ
name_of NoSuchThread = codes "NoSuchThread"
name_of WrongLock = codes "WrongLock"
name_of Busy = codes "Busy"
name_of NotHolder = codes "NotHolder"
name_of AlreadyHolds = codes "AlreadyHolds"
name_of NoCall = codes "NoCall"
name_of (WrongStep next) = codes "WrongStep"

abbrev pub message_of : Refusal → List ℕ
message_of NoSuchThread = codes "no such thread"
message_of WrongLock = codes "the lock has no such operation or step"
message_of Busy = codes "the thread has a pending call"
message_of NotHolder = codes "the thread does not hold the lock in that mode"
message_of AlreadyHolds = codes "the thread holds the lock already"
message_of NoCall = codes "the thread has no pending call"
message_of (WrongStep next) = codes "the thread's next step is a different one"

abbrev pub text_of : Refusal → List ℕ
text_of refusal = name_of refusal ++ codes ": " ++ message_of refusal
