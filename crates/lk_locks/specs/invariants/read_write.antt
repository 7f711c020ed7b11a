-- Invariants. The common part of the two read-write locks: the entries that a pending call still
-- owes the history, the readers, the writer and the announced writer.
use Rattle.std.specs.Prelude.{◌≡◌, ◌<◌, ◌^◌, ℕ, List, [], ◌++◌, length, Option, None, Some}
use Rattle.std.specs.Prelude.{Bool, true, false, set, slice_index}
use Rattle.lk_locks.specs.Change.{acts, announcement, Change, Makes}
use Rattle.lk_locks.specs.State.{phase_at}
use Rattle.lk_locks.specs.Sequential.{Sequential, has}
use Rattle.lk_locks.specs.invariants.Threads.{EachOnce, is_this}
use Rattle.lk_locks.specs.declared.read_write.Section.{Section}
use Rattle.lk_locks.specs.Types.{Entry, Family, FifoReadWrite, ReadLock, ReadUnlock, WriteLock}
use Rattle.lk_locks.specs.Types.{WriteUnlock, Downgrade, Phase, TryRead, Reading, LeaveRead}
use Rattle.lk_locks.specs.Types.{TryWrite, AwaitReaders, Writing, LeaveWrite, TryDowngrade}

-- the entries that the pending call of thread i has still to add to the history
abbrev pub owed_of : Family → ℕ → Phase → List Entry
owed_of family i TryRead = acts i ReadLock
owed_of family i LeaveRead = acts i ReadUnlock
owed_of family i TryWrite = announcement family i WriteLock ++ acts i WriteLock
owed_of family i AwaitReaders = acts i WriteLock
owed_of family i LeaveWrite = acts i WriteUnlock
owed_of family i TryDowngrade = acts i Downgrade
owed_of family i p = []

abbrev pub is_reading : Phase → Bool
is_reading Reading = true
is_reading LeaveRead = true
is_reading p = false

abbrev pub is_writing : Phase → Bool
is_writing Writing = true
is_writing LeaveWrite = true
is_writing TryDowngrade = true
is_writing p = false

abbrev pub is_announced : Phase → Bool
is_announced AwaitReaders = true
is_announced p = false

-- a writer is alone
abbrev pub IsAlone : Option ℕ → List ℕ → Option ℕ → Type 0
IsAlone None readers announced = Unit {0}
IsAlone (Some w) readers announced = (readers ≡ []) × (announced ≡ None)

-- the readers, the writer and the announced writer are the threads in the phases for that
pub record AreHolders (ps : List Phase) (q : Sequential) : Type 0 where
  pub reading : (t : ℕ) → has q.readers t ≡ is_reading (phase_at ps t)
  pub writing : (t : ℕ) → is_this q.writer t ≡ is_writing (phase_at ps t)
  pub awaiting : (t : ℕ) → is_this q.announced t ≡ is_announced (phase_at ps t)
  pub once : EachOnce q.readers
  pub alone : IsAlone q.writer q.readers q.announced

-- the words after a section that made these writes
abbrev pub after_writes : List ℕ → Option (ℕ × ℕ) → Option (ℕ × ℕ) → List ℕ
after_writes ws None None = ws
after_writes ws (Some first) None = set ws first.0 first.1
after_writes ws None (Some other) = set ws other.0 other.1
after_writes ws (Some first) (Some other) = set (set ws first.0 first.1) other.0 other.1

-- a section of thread t that finds these words makes this change
abbrev pub IsSection : Section → List ℕ → ℕ → Change → Type 0
IsSection section ws t change =
    Makes (after_writes ws section.first section.other) t section.next change

-- the FIFO lock has a third word
abbrev pub third_word : Family → List ℕ → Option ℕ
third_word FifoReadWrite ws = Some (slice_index ws 2)
third_word family ws = None

abbrev pub count_with : Option ℕ → ℕ
count_with None = 2
count_with (Some third) = 3

-- the flag is set for the writer, or for the announced writer
abbrev pub flag_of : Option ℕ → Option ℕ → ℕ
flag_of None None = 0
flag_of writer announced = 1

-- Words that count readers in some way, and have this flag, agree with the holders. There are fewer
-- threads than a word has values.
pub record AgreeAsCounted (Count : ℕ → Type 0) (flag bits : ℕ) (ps : List Phase)
    (q : Sequential) : Type 0 where
  pub narrow : length ps < 2 ^ bits
  pub count : Count (length q.readers)
  pub flag_is : flag ≡ flag_of q.writer q.announced
  pub holders : AreHolders ps q
