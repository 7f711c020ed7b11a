-- Definitions. The contention of a run, counted move by move. A count stays at its greatest value.
use Rattle.std.specs.Prelude.{ℕ, ◌+◌, ◌-◌, ◌^◌, ◌||◌, List, [], ◌∷◌, ◌++◌, codes, length, max, min}
use Rattle.std.specs.Prelude.{set, replicate, slice_index, nat_lt, Bool, true, false, count_by}
use Rattle.std.specs.Prelude.{◌==◌, if◌then◌else◌, Option, Some}
use Rattle.std.specs.Fmt.{decimal}
use Rattle.lk_locks.specs.Play.{Tracked, waiting_in}
use Rattle.lk_locks.specs.declared.kinds.LockKind.{LockKind}
use Rattle.lk_locks.specs.declared.kinds.Move.{Move}
use Rattle.lk_locks.specs.declared.kinds.Move.TheVariants.{Call, Step}
use Rattle.lk_locks.specs.declared.kinds.Outcome.{Outcome}
use Rattle.lk_locks.specs.declared.kinds.Outcome.TheVariants.{Moved, Waits}
use Rattle.lk_locks.specs.declared.kinds.Phase.{Phase}
use Rattle.lk_locks.specs.declared.kinds.Phase.TheVariants.{AwaitLink}
use Rattle.lk_locks.specs.declared.kinds.StepKind.{StepKind}
use Rattle.lk_locks.specs.declared.kinds.StepKind.TheVariants.{Cas, Add, Swap, Section}
use Rattle.lk_trace.specs.Names.{name_at}
use Rattle.lk_trace.specs.declared.checker.Made.{Made}
use Rattle.lk_trace.specs.declared.line.TraceLine.{TraceLine}
use Rattle.lk_trace.specs.declared.names.WordName.{WordName}
use Rattle.lk_trace.specs.declared.names.WordName.TheVariants.{NextTicket, ReadAcquires}
use Rattle.lk_text.specs.Filled.{in_groups}
use Rattle.lk_text.specs.declared.summary.Summary.{Summary}

abbrev pub plus_one : ℕ → ℕ
plus_one count = min (count + 1) (2 ^ 64 - 1)

-- nothing was counted
abbrev pub new_summary : Summary
new_summary = record {
  moved = replicate 256 false;
  moves = 0;
  waits = 0;
  failed = 0;
  late = 0;
  longest = 0;
  wraps = 0;
  counter = 0;
}

-- a word of this name counts without end
abbrev pub is_counter : Option WordName → Bool
is_counter (Some NextTicket) = true
is_counter (Some ReadAcquires) = true
is_counter name = false

-- the first word of the lock counts without end
abbrev pub has_counter : LockKind → Bool
has_counter kind = is_counter (name_at kind 0)

-- a failed poll of a thread in this phase
abbrev pub after_wait : Summary → Phase → Summary
after_wait s AwaitLink = record s { late = plus_one s.late }
after_wait s from = record s { waits = plus_one s.waits }

abbrev pub with_queue : Summary → ℕ → Summary
with_queue s threads = record s { longest = max s.longest threads }

-- a counter that is less than before has wrapped around
abbrev pub with_counter : Summary → ℕ → Summary
with_counter s now = record s {
  wraps = if nat_lt now s.counter then plus_one s.wraps else s.wraps;
  counter = now;
}

-- a step that may have changed who is in the queue, and the lock's counter
abbrev pub after_lock : Summary → Tracked → Summary
after_lock s lock =
    if has_counter lock.state.kind
    then with_counter (with_queue s (length (waiting_in lock))) (slice_index lock.state.words 0)
    else with_queue s (length (waiting_in lock))

-- a step that was no failed poll
abbrev pub after_step : Summary → Tracked → StepKind → Outcome → Summary
after_step s lock Cas Moved = record s { failed = plus_one s.failed }
after_step s lock Add outcome = after_lock s lock
after_step s lock Swap outcome = after_lock s lock
after_step s lock Section outcome = after_lock s lock
after_step s lock kind outcome = s

abbrev pub after_outcome : Summary → Tracked → StepKind → Phase → Outcome → Summary
after_outcome s lock kind from Waits = after_wait s from
after_outcome s lock kind from outcome = after_step s lock kind outcome

-- a call, or a step with what came of it
abbrev pub after_action : Summary → Tracked → Move → Made → Summary
after_action s lock (Call op) made = s
after_action s lock (Step kind) made = after_outcome s lock kind made.from made.outcome

-- a move that led to this lock
abbrev pub summary_with : Summary → Tracked → TraceLine → Made → Summary
summary_with s lock line made =
    after_action
    (record s { moves = plus_one s.moves; moved = set s.moved line.thread true })
    lock line.action made

-- some thread waited
abbrev pub is_contended : Summary → Bool
is_contended s = nat_lt 0 s.waits || nat_lt 0 s.late || nat_lt 0 s.failed

-- how many threads moved
abbrev pub moved_in : List Bool → ℕ
moved_in moved = count_by (λ m. m) moved

-- a count, and what there are of: one, or several
abbrev pub count_of : ℕ → List ℕ → List ℕ → List ℕ
count_of n one several = in_groups 6 n ++ codes " " ++ (if n == 1 then one else several)

-- the values in the sentence of the counts
abbrev pub counts_of : Summary → List (List ℕ × List ℕ)
counts_of s =
    (codes "threads", count_of (moved_in s.moved) (codes "thread") (codes "threads"))
    ∷ (codes "moves", count_of s.moves (codes "move") (codes "moves"))
    ∷ (codes "waits", count_of s.waits (codes "wait") (codes "waits"))
    ∷ (
      codes "failed",
      count_of s.failed (codes "failed compare-and-swap")
          (codes "failed compare-and-swaps"),
    )
    ∷ (codes "late", count_of s.late (codes "poll of a late link") (codes "polls of a late link"))
    ∷ (codes "longest", decimal s.longest)
    ∷ (
      codes "wraps",
      count_of s.wraps (codes "wrap of the counter")
          (codes "wraps of the counter"),
    )
    ∷ []

-- the counts, in the order of their names in JSON
abbrev pub numbers_of : Summary → List ℕ
numbers_of s =
    moved_in s.moved ∷ s.moves ∷ s.waits ∷ s.failed ∷ s.late ∷ s.longest ∷ s.wraps ∷ []
