-- Definitions. The change that a step makes, with the entries that it adds, and the arithmetic of
-- words.
use Rattle.std.specs.Prelude.{ℕ, ◌+◌, ◌-◌, ◌%◌, ◌^◌, List, set, slice_index, Option, None, Some, []}
use Rattle.std.specs.Prelude.{◌∷◌, ◌≡◌}
use Rattle.lk_words.specs.Operations.{answer_of, word_of, words_after}
use Rattle.lk_words.specs.declared.operation.Operation.{Operation}
use Rattle.lk_words.specs.declared.operation.Answer.{Answer}
use Rattle.lk_locks.specs.Types.{StepKind, Read, Write, Swap, Cas, Add, Phase, Outcome, Waits}
use Rattle.lk_locks.specs.Types.{Family, FifoReadWrite, Op, WriteLock, Entry, Announced, Acted}
use Rattle.lk_locks.specs.Types.{Returned}
use Rattle.lk_locks.specs.declared.entries.Added.{Added}
use Rattle.lk_locks.specs.declared.entries.Added.TheVariants as added
use Rattle.lk_locks.specs.declared.kinds.Entry.TheVariants.{Called}
use Rattle.lk_words.specs.declared.operation.Operation.TheVariants as op

-- the words, the phase of the thread that stepped, the outcome, and the entries that it adds to the
-- history
pub record Change : Type 0 where
  pub words : List ℕ
  pub phase : Phase
  pub outcome : Outcome
  pub entries : List Entry

abbrev pub to : List ℕ → Phase → Outcome → List Entry → Change
to ws p o es = record { words = ws; phase = p; outcome = o; entries = es }

-- the kind of step that an operation is
abbrev pub kind_of : Operation → StepKind
kind_of (op.Read i) = Read
kind_of (op.Write i v) = Write
kind_of (op.Swap i v) = Swap
kind_of (op.CompareAndSwap i old new) = Cas
kind_of (op.FetchAndAdd i d) = Add

-- a step is one operation, and its answer leads to the new phase, the outcome and the entries
abbrev pub step_by : (Phase → Answer → List ℕ → Change) → ℕ → List ℕ → Phase → Option Operation
    → Change
step_by after bits ws p None = to ws p Waits []
step_by after bits ws p (Some o) =
    after p (answer_of (slice_index ws (word_of o)) o) (words_after bits ws o)

-- sums of words of `bits` bits wrap
abbrev pub plus_one : ℕ → ℕ → ℕ
plus_one bits x = (x + 1) % 2 ^ bits

-- the words, with one added to word i, or taken from it
abbrev pub with_one_more : ℕ → List ℕ → ℕ → List ℕ
with_one_more bits words i = set words i (plus_one bits (slice_index words i))

abbrev pub with_one_less : ℕ → List ℕ → ℕ → List ℕ
with_one_less bits words i = set words i ((slice_index words i + (2 ^ bits - 1)) % 2 ^ bits)

abbrev pub announcement : Family → ℕ → Op → List Entry
announcement FifoReadWrite t WriteLock = Announced t ∷ []
announcement family t op = []

abbrev pub acts : ℕ → Op → List Entry
acts t op = Acted t op ∷ Returned t op ∷ []

-- the entries that this value stands for, in a move of thread t
abbrev pub entries_by : ℕ → Added → List Entry
entries_by t added.Nothing = []
entries_by t (added.Call op) = Called t op ∷ []
entries_by t added.Announcement = Announced t ∷ []
entries_by t (added.Act op) = Acted t op ∷ []
entries_by t (added.Return op) = Returned t op ∷ []
entries_by t (added.ActAndReturn op) = acts t op
entries_by t added.AnnouncedWrite = Announced t ∷ acts t WriteLock

-- these words, and a new phase of thread t with the outcome and these entries, make the change
pub record Makes (words : List ℕ) (t : ℕ) (made : Phase × Outcome × Added) (change : Change)
    : Type 0 where
  pub words_are : words ≡ change.words
  pub phase_is : made.0 ≡ change.phase
  pub outcome_is : made.1 ≡ change.outcome
  pub entries_are : entries_by t made.2 ≡ change.entries
