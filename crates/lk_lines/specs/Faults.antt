-- Definitions: why a text is no schedule.
use Rattle.std.specs.Prelude.{ℕ}

-- A fault of a text, with the number of the line. The program's `ReadFault` has these and lack of
-- memory.
pub data Fault : Type 0 where
  TooLong : Fault
  NoHeader : ℕ → Fault
  BadHeader : ℕ → Fault
  BadThreads : ℕ → Fault
  BadLine : ℕ → Fault
  TooManyMoves : ℕ → Fault
  WordsTooNarrow : ℕ → Fault
