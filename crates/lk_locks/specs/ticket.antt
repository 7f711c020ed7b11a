-- Definitions. The ticket lock: its calls. Its steps are the table of `laws`, which has the source.
use Rattle.std.specs.Prelude.{Option, None, Some}
use Rattle.lk_locks.specs.Types.{Phase, Idle, TakeTicket, TicketInside, ReadServing, Op, Acquire}
use Rattle.lk_locks.specs.Types.{Release}
pub use Rattle.lk_locks.specs.laws.{next_ticket, now_serving, operation, after}

-- the calls that a thread in this phase may make, and the phases to which they lead
abbrev pub after_call : Phase → Op → Option Phase
after_call Idle Acquire = Some TakeTicket
after_call (TicketInside t) Release = Some (ReadServing t)
after_call p op = None
