-- Definitions. The step that a change is of.
use Rattle.std.specs.Prelude.{Bool, Option, None, Some, false, if◌then◌else◌}
use denote.Enum.Bare.{sameb}
use Rattle.lk_locks.specs.declared.kinds.Phase.{Phase}
use Rattle.lk_locks.specs.declared.kinds.Phase.TheVariants as phase
use Rattle.lk_why.specs.contracts.change.PhaseName.{the_type}
use Rattle.lk_why.specs.declared.change.PhaseName.TheVariants as name
use Rattle.lk_why.specs.Types.{Change, How, PhaseName}

-- the phase without its number, if a thread in it takes a step next
abbrev pub name_of : Phase → Option PhaseName
name_of phase.TakeTicket = Some name.TakeTicket
name_of (phase.AwaitTurn n) = Some name.AwaitTurn
name_of (phase.ReadServing n) = Some name.ReadServing
name_of (phase.PassOn n) = Some name.PassOn
name_of phase.ClearNext = Some name.ClearNext
name_of phase.SwapTail = Some name.SwapTail
name_of (phase.SetLocked i) = Some name.SetLocked
name_of (phase.LinkTo i) = Some name.LinkTo
name_of phase.AwaitGrant = Some name.AwaitGrant
name_of phase.ReadNext = Some name.ReadNext
name_of phase.CasTail = Some name.CasTail
name_of phase.AwaitLink = Some name.AwaitLink
name_of (phase.Grant i) = Some name.Grant
name_of phase.TryRead = Some name.TryRead
name_of phase.LeaveRead = Some name.LeaveRead
name_of phase.TryWrite = Some name.TryWrite
name_of phase.AwaitReaders = Some name.AwaitReaders
name_of phase.LeaveWrite = Some name.LeaveWrite
name_of phase.TryDowngrade = Some name.TryDowngrade
name_of p = None

-- whether it is this name
abbrev pub is_named : PhaseName → Option PhaseName → Bool
is_named step None = false
is_named step (Some name) = sameb the_type name step

-- the change of the step from this phase, if it is the one that is changed
abbrev pub how_at : Option Change → Phase → Option How
how_at None p = None
how_at (Some change) p = if is_named change.step (name_of p) then Some change.how else None
