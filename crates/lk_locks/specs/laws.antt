-- Definitions. The steps of the ticket lock, as one table: the operation of each phase, and the
-- change to which its answer leads. The machine (`ticket`) has words of B bits, and the running
-- lock of lk_workers words of 64.
--
-- Mellor-Crummey and Scott, "Algorithms for Scalable Synchronization on Shared-Memory
-- Multiprocessors", ACM TOCS 9(1), 1991, section 2.2. Different here: words have B bits, so tickets
-- wrap; back-off is not a step; a release is two steps, a read of `now_serving` and a write of the
-- value read plus one.
use Rattle.std.specs.Prelude.{ℕ, ◌==◌, List, [], ◌∷◌, Option, None, Some, if◌then◌else◌}
use Rattle.lk_words.specs.declared.operation.Operation.{Operation}
use Rattle.lk_words.specs.declared.operation.Operation.TheVariants.{Read, Write, FetchAndAdd}
pub use Rattle.lk_words.specs.declared.operation.Answer.{Answer}
pub use Rattle.lk_words.specs.declared.operation.Answer.TheVariants.{Found, Nothing}
use Rattle.lk_locks.specs.Change.{Change, acts, plus_one, to}
use Rattle.lk_locks.specs.Types.{Phase, Idle, TakeTicket, AwaitTurn, TicketInside, ReadServing}
use Rattle.lk_locks.specs.Types.{PassOn, Acquire, Release, Moved, Waits, Entered, Left, Acted}
use Rattle.lk_locks.specs.Types.{Returned}

-- the indices of the two words: the next ticket to hand out, and the ticket now served
abbrev pub next_ticket : ℕ
next_ticket = 0

abbrev pub now_serving : ℕ
now_serving = 1

-- the next operation of a thread in this phase
abbrev pub operation : ℕ → Phase → Option Operation
operation bits TakeTicket = Some (FetchAndAdd next_ticket 1)
operation bits (AwaitTurn t) = Some (Read now_serving)
operation bits (ReadServing t) = Some (Read now_serving)
operation bits (PassOn v) = Some (Write now_serving (plus_one bits v))
operation bits p = None

-- The change of a step of thread i, by the answer of its operation, which leaves the words `ws`. An
-- acquire acts at its fetch-and-add, and returns at the read that finds its ticket. A release acts
-- and returns at its last step.
abbrev pub after : ℕ → Phase → Answer → List ℕ → Change
after i TakeTicket (Found t) ws = to ws (AwaitTurn t) Moved (Acted i Acquire ∷ [])
after i (AwaitTurn t) (Found v) ws =
    if v == t then to ws (TicketInside t) Entered (Returned i Acquire ∷ [])
    else to ws (AwaitTurn t) Waits []
after i (ReadServing t) (Found v) ws = to ws (PassOn v) Moved []
after i (PassOn v) answer ws = to ws Idle Left (acts i Release)
after i p answer ws = to ws p Waits []
