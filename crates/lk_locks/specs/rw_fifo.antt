-- Definitions. The FIFO read-write lock: its words and its sections.
--
-- After Herlihy and Shavit, The Art of Multiprocessor Programming, chapter 8, "FifoReadWriteLock".
-- Each poll is one section of the lock's monitor. Different here: a reader waits until the flag is
-- clear, and only then adds one to `readAcquires`; a writer waits until the flag is clear, and then
-- sets it; the counts have B bits and wrap; signals are not modelled; a writer may downgrade.
use Rattle.std.specs.Prelude.{ℕ, Bool, ◌==◌, List, [], ◌∷◌, slice_index, set, if◌then◌else◌}
use Rattle.lk_locks.specs.Change.{Change, acts, to, with_one_more}
use Rattle.lk_locks.specs.Types.{Phase, Idle, TryRead, Reading, LeaveRead, TryWrite, AwaitReaders}
use Rattle.lk_locks.specs.Types.{Writing, LeaveWrite, TryDowngrade, Moved, Waits, Entered, Left}
use Rattle.lk_locks.specs.Types.{ReadLock, ReadUnlock, WriteLock, WriteUnlock, Downgrade}
use Rattle.lk_locks.specs.Types.{Announced}

-- the indices of the words: the count of readers that entered, that of readers that left, and the
-- writer's flag
abbrev pub read_acquires : ℕ
read_acquires = 0

abbrev pub read_releases : ℕ
read_releases = 1

abbrev pub flag : ℕ
flag = 2

-- no reader is inside: as many left as entered
abbrev pub are_gone : List ℕ → Bool
are_gone ws = slice_index ws read_acquires == slice_index ws read_releases

-- A section of thread i in this phase. A writer announces itself when it sets the flag.
abbrev pub step : ℕ → List ℕ → ℕ → Phase → Change
step bits ws i TryRead =
    if slice_index ws flag == 0
    then to (with_one_more bits ws read_acquires) Reading Entered (acts i ReadLock)
    else to ws TryRead Waits []
step bits ws i LeaveRead = to (with_one_more bits ws read_releases) Idle Left (acts i ReadUnlock)
step bits ws i TryWrite =
    if slice_index ws flag == 0
    then (if are_gone ws
    then to (set ws flag 1) Writing Entered (Announced i ∷ acts i WriteLock)
    else to (set ws flag 1) AwaitReaders Moved (Announced i ∷ []))
    else to ws TryWrite Waits []
step bits ws i AwaitReaders =
    if are_gone ws then to ws Writing Entered (acts i WriteLock) else to ws AwaitReaders Waits []
step bits ws i LeaveWrite = to (set ws flag 0) Idle Left (acts i WriteUnlock)
step bits ws i TryDowngrade =
    to (set (with_one_more bits ws read_acquires) flag 0) Reading Entered (acts i Downgrade)
step bits ws i p = to ws p Waits []
