-- Definitions: the record of a thread of an MCS lock, by the operations of the steps in which it is
-- used first.
use Rattle.std.specs.Prelude.{ℕ, Option}
use Rattle.std.specs.Option.{option_map_or}
use Rattle.lk_words.specs.Operations.{word_of, left_by}
use Rattle.lk_words.specs.declared.operation.Operation.{Operation}
use Rattle.lk_locks.specs.Locks.{operation_of}
use Rattle.lk_locks.specs.declared.kinds.LockKind.{LockKind}
use Rattle.lk_locks.specs.declared.kinds.Phase.TheVariants.{ClearNext, AwaitGrant, SwapTail}

abbrev pub word_or_0 : Option Operation → ℕ
word_or_0 o = option_map_or word_of o 0

-- the value that an operation leaves in a word that holds 0
abbrev pub left_or_0 : ℕ → Option Operation → ℕ
left_or_0 bits o = option_map_or (left_by bits 0) o 0

-- the word of a thread's `next`, which its first step clears
abbrev pub next_word : LockKind → ℕ → ℕ → ℕ
next_word kind bits t = word_or_0 (operation_of kind bits t ClearNext)

-- the word of its `locked`, which it polls
abbrev pub locked_word : LockKind → ℕ → ℕ → ℕ
locked_word kind bits t = word_or_0 (operation_of kind bits t AwaitGrant)

-- the value that names its record, which it swaps into the tail
abbrev pub record_name : LockKind → ℕ → ℕ → ℕ
record_name kind bits t = left_or_0 bits (operation_of kind bits t SwapTail)
