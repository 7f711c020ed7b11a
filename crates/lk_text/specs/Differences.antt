-- Definitions. The values expected and found, of a line that differs from its lock.
use Rattle.std.specs.Prelude.{◌≡◌, ◌+◌, ◌-◌, ◌^◌, ℕ, min, Option, None, Some}
use Rattle.lk_trace.specs.declared.difference.Difference.{Difference}
use Rattle.lk_trace.specs.declared.difference.Difference.TheVariants.{FoundOther, LeftOther}
use Rattle.lk_trace.specs.declared.difference.Difference.TheVariants.{CountNotAbove}
use Rattle.lk_text.specs.declared.report.Datum.{Datum}
use Rattle.lk_text.specs.declared.report.Datum.TheVariants.{Number}

-- the lock's number and the line's, if these are what differs; of a count the least that is due
abbrev pub numbers_of : Difference → Option (ℕ × ℕ)
numbers_of (FoundOther word found given) = Some (found, given)
numbers_of (LeftOther word left given) = Some (left, given)
numbers_of (CountNotAbove last given) = Some (min (last + 1) (2 ^ 64 - 1), given)
numbers_of difference = None

-- these two numbers are said
abbrev pub AreNumbers : Option (Datum × Datum) → ℕ × ℕ → Type 0
AreNumbers said numbers = said ≡ Some (Number numbers.0, Number numbers.1)
