-- Definitions. The simple read-write lock: its words and its sections.
--
-- After Herlihy and Shavit, The Art of Multiprocessor Programming, chapter 8,
-- "SimpleReadWriteLock". Each poll is one section of the lock's monitor. Different here: a writer
-- waits while the reader count is not 0 or the flag is set, and then sets the flag; signals are not
-- modelled, and a thread that waits may poll at any time; the count has B bits; a writer may
-- downgrade.
use Rattle.std.specs.Prelude.{ℕ, ◌==◌, ◌&&◌, List, [], slice_index, set, if◌then◌else◌}
use Rattle.lk_locks.specs.Change.{Change, acts, to, with_one_less, with_one_more}
use Rattle.lk_locks.specs.Types.{Phase, Idle, TryRead, Reading, LeaveRead, TryWrite, Writing}
use Rattle.lk_locks.specs.Types.{LeaveWrite, TryDowngrade, Waits, Entered, Left, ReadLock}
use Rattle.lk_locks.specs.Types.{ReadUnlock, WriteLock, WriteUnlock, Downgrade}

-- the indices of the words: the count of the readers, and the writer's flag
abbrev pub readers : ℕ
readers = 0

abbrev pub flag : ℕ
flag = 1

-- a section of thread i in this phase
abbrev pub step : ℕ → List ℕ → ℕ → Phase → Change
step bits ws i TryRead =
    if slice_index ws flag == 0
    then to (with_one_more bits ws readers) Reading Entered (acts i ReadLock)
    else to ws TryRead Waits []
step bits ws i LeaveRead = to (with_one_less bits ws readers) Idle Left (acts i ReadUnlock)
step bits ws i TryWrite =
    if slice_index ws readers == 0 && slice_index ws flag == 0
    then to (set ws flag 1) Writing Entered (acts i WriteLock)
    else to ws TryWrite Waits []
step bits ws i LeaveWrite = to (set ws flag 0) Idle Left (acts i WriteUnlock)
step bits ws i TryDowngrade =
    to (set (with_one_more bits ws readers) flag 0) Reading Entered (acts i Downgrade)
step bits ws i p = to ws p Waits []
