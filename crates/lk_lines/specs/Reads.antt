-- Definitions: how the answer of a call that reads a text relates to what the text says.
use Rattle.std.specs.Prelude.{◌≡◌, Result, Ok, Err}
use Rattle.lk_lines.specs.Faults.{Fault}
use Rattle.lk_lines.specs.Faults as text
use Rattle.lk_lines.specs.declared.faults.ReadFault.{ReadFault}
use Rattle.lk_lines.specs.declared.faults.ReadFault.TheVariants.{TooLong, NoHeader, BadHeader}
use Rattle.lk_lines.specs.declared.faults.ReadFault.TheVariants.{BadThreads, BadLine, TooManyMoves}
use Rattle.lk_lines.specs.declared.faults.ReadFault.TheVariants.{WordsTooNarrow, OutOfMemory}

-- Memory is wanted for the moves alone: each fault of the length and of the header is answered
-- without it.
abbrev pub WantsMemory : {Y : Type 0} → Result Y Fault → Type 0
WantsMemory (Ok y) = Unit {0}
WantsMemory (Err (text.BadLine n)) = Unit {0}
WantsMemory (Err (text.TooManyMoves n)) = Unit {0}
WantsMemory (Err fault) = ⊥

-- The fault is the text's, or memory ran out.
abbrev pub Fails : {Y : Type 0} → ReadFault → Result Y Fault → Type 0
Fails TooLong read = read ≡ Err text.TooLong
Fails (NoHeader n) read = read ≡ Err (text.NoHeader n)
Fails (BadHeader n) read = read ≡ Err (text.BadHeader n)
Fails (BadThreads n) read = read ≡ Err (text.BadThreads n)
Fails (BadLine n) read = read ≡ Err (text.BadLine n)
Fails (TooManyMoves n) read = read ≡ Err (text.TooManyMoves n)
Fails (WordsTooNarrow n) read = read ≡ Err (text.WordsTooNarrow n)
Fails OutOfMemory read = WantsMemory read

-- The answer, seen by `view`, is what reading gives, unless memory ran out.
abbrev pub Gives : {X Y : Type 0} → (X → Y) → Result X ReadFault → Result Y Fault → Type 0
Gives view (Ok x) read = read ≡ Ok (view x)
Gives view (Err fault) read = Fails fault read

-- ---- reading without memory

-- a fault that a text can have
abbrev pub IsOfText : ReadFault → Type 0
IsOfText OutOfMemory = ⊥
IsOfText fault = Unit {0}
