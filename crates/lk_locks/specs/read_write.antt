-- Definitions. The common part of the two read-write locks: their calls, their one kind of step,
-- and the effect of a section.
--
-- After Herlihy and Shavit, The Art of Multiprocessor Programming, chapter 8. `Downgrade`, by which
-- a writer becomes a reader in one section, is an addition.
use Rattle.std.specs.Prelude.{ℕ, ◌<◌, slice_index, List, Option, None, Some}
use Rattle.std.specs.Prelude.{◌≡◌, ◌≢◌, ◌==◌, if◌then◌else◌, length}
use Rattle.std.specs.Option.{option_or}
use Rattle.lk_words.specs.declared.operation.Answer.TheVariants.{Nothing}
use Rattle.lk_words.specs.declared.operation.Effect.{Effect}
use Rattle.lk_locks.specs.Change.{Change}
use Rattle.lk_locks.specs.rw_fifo
use Rattle.lk_locks.specs.rw_simple
use Rattle.lk_locks.specs.Types.{FifoReadWrite, TryWrite, TryDowngrade, SectionEffect}
use Rattle.lk_locks.specs.Types.{TryRead, LeaveRead, LeaveWrite, ReadUnlock, WriteLock, WriteUnlock}
use Rattle.lk_locks.specs.Types.{Family, Reading, Writing, ReadLock, Downgrade, StepKind}
use Rattle.lk_locks.specs.Types.{Phase, Idle, Op, Section}

-- the calls that a thread in this phase may make, and the phases to which they lead
abbrev pub after_call : Phase → Op → Option Phase
after_call Idle ReadLock = Some TryRead
after_call Reading ReadUnlock = Some LeaveRead
after_call Idle WriteLock = Some TryWrite
after_call Writing WriteUnlock = Some LeaveWrite
after_call Writing Downgrade = Some TryDowngrade
after_call p op = None

-- the step that a thread takes next: a section, unless it is idle or inside
abbrev pub step_due : Phase → Option StepKind
step_due Idle = None
step_due Reading = None
step_due Writing = None
step_due p = Some Section

-- the number of words of the monitor
abbrev pub word_count : Family → ℕ
word_count FifoReadWrite = 3
word_count family = 2

-- a section of thread i in this phase
abbrev pub step : Family → ℕ → List ℕ → ℕ → Phase → Change
step FifoReadWrite bits ws i p = rw_fifo.step bits ws i p
step family bits ws i p = rw_simple.step bits ws i p

-- the change of word i, if it differs between these lists
abbrev pub change_at : List ℕ → List ℕ → ℕ → Option Effect
change_at before after i =
    if slice_index before i == slice_index after i then None
    else Some (record {
      word = i;
      found = slice_index before i;
      left = slice_index after i;
      answer = Nothing;
    })

-- the change of a word to which this value is written, if it differs
abbrev pub change_to : List ℕ → Option (ℕ × ℕ) → Option Effect
change_to ws None = None
change_to ws (Some (i, value)) =
    if slice_index ws i == value then None
    else Some (record { word = i; found = slice_index ws i; left = value; answer = Nothing })

-- the effect of a section of thread i in this phase: on the first word, and on one of the others
abbrev pub effect : Family → ℕ → List ℕ → ℕ → Phase → SectionEffect
effect family bits ws i p =
    let made : Change = step family bits ws i p in
    record {
      first = change_at ws made.words 0;
      second = option_or (change_at ws made.words 1) (change_at ws made.words 2);
      outcome = made.outcome;
    }

-- this word is the one that changes
abbrev pub IsOn : Option Effect → ℕ → Type 0
IsOn None i = ⊥
IsOn (Some e) i = e.word ≡ i

abbrev pub IsChangeOf : List ℕ → List ℕ → Option Effect → Type 0
IsChangeOf before after None = Unit {0}
IsChangeOf before after (Some e) =
    (e.word < length before) × (e.found ≡ slice_index before e.word)
    × (e.left ≡ slice_index after e.word) × (e.found ≢ e.left)

-- The effect of a section names each word that changes: at most two, which are different words.
pub record Tells (section : SectionEffect) (before after : List ℕ) : Type 0 where
  pub first_is : IsChangeOf before after section.first
  pub second_is : IsChangeOf before after section.second
  pub apart : (i : ℕ) → IsOn section.first i → IsOn section.second i → ⊥
  pub others : (i : ℕ) → (IsOn section.first i → ⊥) → (IsOn section.second i → ⊥)
      → slice_index after i ≡ slice_index before i
