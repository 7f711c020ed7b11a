-- Definitions. The words of the locks by name.
use Rattle.std.specs.Prelude.{ℕ, ◌-◌, ◌/◌, ◌%◌, ◌==◌, nat_lt, Option, None, Some, Bool, true}
use Rattle.std.specs.Prelude.{false, if◌then◌else◌}
use Rattle.lk_locks.specs.declared.kinds.LockKind.{LockKind}
use Rattle.lk_locks.specs.declared.kinds.LockKind.TheVariants.{Ticket, Mcs, RwSimple, RwFifo}
use Rattle.lk_trace.specs.declared.names.WordName.{WordName}
use Rattle.lk_trace.specs.declared.names.WordName.TheVariants.{NextTicket, NowServing, Tail, Next}
use Rattle.lk_trace.specs.declared.names.WordName.TheVariants.{Locked, Readers, Flag, ReadAcquires}
use Rattle.lk_trace.specs.declared.names.WordName.TheVariants.{ReadReleases}
use Rattle.lk_locks.specs.ticket
use Rattle.lk_locks.specs.mcs
use Rattle.lk_locks.specs.rw_simple
use Rattle.lk_locks.specs.rw_fifo

-- which of the lock's words it is. A word of another lock is counted as 0
abbrev pub place_of : LockKind → WordName → ℕ
place_of Ticket NextTicket = ticket.next_ticket
place_of Ticket NowServing = ticket.now_serving
place_of Mcs Tail = mcs.tail
place_of Mcs (Next thread) = mcs.next thread
place_of Mcs (Locked thread) = mcs.locked thread
place_of RwSimple Readers = rw_simple.readers
place_of RwSimple Flag = rw_simple.flag
place_of RwFifo ReadAcquires = rw_fifo.read_acquires
place_of RwFifo ReadReleases = rw_fifo.read_releases
place_of RwFifo Flag = rw_fifo.flag
place_of kind word = 0

-- Of an MCS lock: the tail, and then the two words of each of at most 64 records.
abbrev pub name_at : LockKind → ℕ → Option WordName
name_at Ticket place = if place == ticket.next_ticket then Some NextTicket
    else (if place == ticket.now_serving then Some NowServing else None)
name_at Mcs place =
    if place == mcs.tail then Some Tail
    else (if nat_lt 128 place then None
    else (if place % 2 == 1 then Some (Next (place / 2)) else Some (Locked (place / 2 - 1))))
name_at RwSimple place = if place == rw_simple.readers then Some Readers
    else (if place == rw_simple.flag then Some Flag else None)
name_at RwFifo place = if place == rw_fifo.read_acquires then Some ReadAcquires
    else (if place == rw_fifo.read_releases then Some ReadReleases
    else (if place == rw_fifo.flag then Some Flag else None))

abbrev pub same_word : WordName → WordName → Bool
same_word NextTicket NextTicket = true
same_word NowServing NowServing = true
same_word Tail Tail = true
same_word (Next i) (Next j) = i == j
same_word (Locked i) (Locked j) = i == j
same_word Readers Readers = true
same_word Flag Flag = true
same_word ReadAcquires ReadAcquires = true
same_word ReadReleases ReadReleases = true
same_word a b = false
