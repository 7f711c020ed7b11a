-- Definitions. Differences as numbers. `built/locktrace.h` has the same.
use Rattle.std.specs.Prelude.{ℕ}
use Rattle.lk_trace.specs.Codes.{refusal_number}
use Rattle.lk_trace.specs.declared.difference.Difference.{Difference}
use Rattle.lk_trace.specs.declared.difference.Difference.TheVariants.{Refused, OtherWord}
use Rattle.lk_trace.specs.declared.difference.Difference.TheVariants.{FoundOther, LeftOther}
use Rattle.lk_trace.specs.declared.difference.Difference.TheVariants.{WroteOther, CountNotAbove}
use Rattle.lk_trace.specs.declared.difference.Difference.TheVariants.{OtherOutcome}

-- refusals from 1, values from 8
abbrev pub difference_number : Difference → ℕ
difference_number (Refused refusal) = refusal_number refusal
difference_number (OtherWord word given) = 8
difference_number (FoundOther word found given) = 9
difference_number (LeftOther word left given) = 10
difference_number (WroteOther wrote) = 11
difference_number (CountNotAbove last given) = 12
difference_number (OtherOutcome outcome given) = 13
