-- Definitions. Moves, outcomes, refusals and the faults of texts as numbers, and the names of
-- faults and differences. `built/locktrace.h` and the page have the same.
use Rattle.std.specs.Prelude.{ℕ, List, codes}
use Rattle.lk_locks.specs.declared.kinds.Op.TheVariants.{Acquire, Release, ReadLock, ReadUnlock}
use Rattle.lk_locks.specs.declared.kinds.Op.TheVariants.{WriteLock, WriteUnlock, Downgrade}
use Rattle.lk_locks.specs.declared.kinds.StepKind.TheVariants.{Read, Write, Swap, Cas, Add, Section}
use Rattle.lk_locks.specs.declared.kinds.Move.{Move}
use Rattle.lk_locks.specs.declared.kinds.Move.TheVariants.{Call, Step}
use Rattle.lk_locks.specs.declared.kinds.Outcome.{Outcome}
use Rattle.lk_locks.specs.declared.kinds.Outcome.TheVariants.{Called, Moved, Waits, Entered, Left}
use Rattle.lk_locks.specs.declared.kinds.Refusal.{Refusal}
use Rattle.lk_locks.specs.declared.kinds.Refusal.TheVariants.{NoSuchThread, WrongLock, Busy}
use Rattle.lk_locks.specs.declared.kinds.Refusal.TheVariants.{NotHolder, AlreadyHolds, NoCall}
use Rattle.lk_locks.specs.declared.kinds.Refusal.TheVariants.{WrongStep}
use Rattle.lk_locks.specs.Refusals.{name_of}
use Rattle.lk_trace.specs.declared.difference.Difference.{Difference}
use Rattle.lk_trace.specs.declared.difference.Difference.TheVariants as differs
use Rattle.lk_trace.specs.declared.trace.TextFault.{TextFault}
use Rattle.lk_trace.specs.declared.trace.TextFault.TheVariants.{NoHeader, BadHeader, BadThreads}
use Rattle.lk_trace.specs.declared.trace.TextFault.TheVariants.{WordsTooNarrow, BadLine}

-- calls from 0, steps from 16
abbrev pub move_number : Move → ℕ
move_number (Call Acquire) = 0
move_number (Call Release) = 1
move_number (Call ReadLock) = 2
move_number (Call ReadUnlock) = 3
move_number (Call WriteLock) = 4
move_number (Call WriteUnlock) = 5
move_number (Call Downgrade) = 6
move_number (Step Read) = 16
move_number (Step Write) = 17
move_number (Step Swap) = 18
move_number (Step Cas) = 19
move_number (Step Add) = 20
move_number (Step Section) = 21

abbrev pub outcome_number : Outcome → ℕ
outcome_number Called = 0
outcome_number Moved = 1
outcome_number Waits = 2
outcome_number Entered = 3
outcome_number Left = 4

abbrev pub refusal_number : Refusal → ℕ
refusal_number NoSuchThread = 1
refusal_number WrongLock = 2
refusal_number Busy = 3
refusal_number NotHolder = 4
refusal_number AlreadyHolds = 5
refusal_number NoCall = 6
refusal_number (WrongStep next) = 7

-- the faults of texts, from 16
abbrev pub fault_number : TextFault → ℕ
fault_number NoHeader = 16
fault_number BadHeader = 17
fault_number BadThreads = 18
fault_number WordsTooNarrow = 19
fault_number BadLine = 20

abbrev pub fault_name : TextFault → List ℕ
fault_name NoHeader = codes "NoHeader"
fault_name BadHeader = codes "BadHeader"
fault_name BadThreads = codes "BadThreads"
fault_name WordsTooNarrow = codes "WordsTooNarrow"
fault_name BadLine = codes "BadLine"

-- of a refusal it is the refusal's
abbrev pub difference_name : Difference → List ℕ
difference_name (differs.Refused refusal) = name_of refusal
difference_name (differs.OtherWord word given) = codes "OtherWord"
difference_name (differs.FoundOther word found given) = codes "FoundOther"
difference_name (differs.LeftOther word left given) = codes "LeftOther"
difference_name (differs.WroteOther wrote) = codes "WroteOther"
difference_name (differs.CountNotAbove last given) = codes "CountNotAbove"
difference_name (differs.OtherOutcome outcome given) = codes "OtherOutcome"
