-- Definitions. Freedom from starvation, in finite form: a law of every list of moves.
--
-- Herlihy and Shavit, The Art of Multiprocessor Programming, chapter 2: a lock is free from
-- starvation if each thread that tries to enter does so in the end. That speaks of runs without
-- end, in which holders release and each thread that can take a step takes one in the end.
-- Different here: runs end, nobody has to release, no scheduler has to be fair, and the thread has
-- to be in the queue. While it waits there, the threads can make few moves, failed polls aside: how
-- many depends on their number alone. A fair scheduler and holders that release add that they make
-- such moves for as long as the thread waits (`Progress`), so that it enters.
use Rattle.std.specs.Prelude.{◌≡◌, ℕ, ◌+◌, ◌-◌, ◌*◌, ◌^◌, ◌<◌, ◌≤◌, ◌==◌, ◌&&◌, List, [], ◌∷◌}
use Rattle.std.specs.Prelude.{length, slice_index, Bool, not, if◌then◌else◌}
use Rattle.lk_locks.specs.Locks.{word_count}
use Rattle.lk_locks.specs.Progress.{is_failed_poll, state_after}
use Rattle.lk_locks.specs.State.{State, phase_at, start}
use Rattle.lk_locks.specs.Steps.{accepts, after_move}
use Rattle.lk_locks.specs.Types.{LockKind, Phase, AwaitTurn, SetLocked, LinkTo, AwaitGrant, Move}
use Rattle.lk_locks.specs.Types.{AwaitReaders}

-- a thread in this phase has taken a ticket, swapped or announced itself, and has not entered
abbrev pub IsInQueue : Phase → Type 0
IsInQueue (AwaitTurn ticket) = Unit {0}
IsInQueue (SetLocked predecessor) = Unit {0}
IsInQueue (LinkTo predecessor) = Unit {0}
IsInQueue AwaitGrant = Unit {0}
IsInQueue AwaitReaders = Unit {0}
IsInQueue p = ⊥

-- thread t waits now, and after each of these moves
abbrev pub KeepsWaiting : (Phase → Type 0) → ℕ → State → List (ℕ × Move) → Type 0
KeepsWaiting Waits t s [] = Waits (phase_at s.phases t)
KeepsWaiting Waits t s (m ∷ ms) =
    Waits (phase_at s.phases t) × KeepsWaiting Waits t (after_move s m.0 m.1) ms

-- how many of these moves are accepted and meet the test, each in the state before it
abbrev pub count_in : (State → ℕ → Move → Bool) → State → List (ℕ × Move) → ℕ
count_in test s [] = 0
count_in test s (m ∷ ms) =
    (if accepts s m.0 m.1 && test s m.0 m.1 then 1 else 0)
    + count_in test (after_move s m.0 m.1) ms

abbrev pub goes_on : State → ℕ → Move → Bool
goes_on s t m = not (is_failed_poll s t m)

-- If thread t waits in the queue through these moves, then at most this number of them, for each of
-- the other threads, were accepted and no failed polls.
abbrev pub IsShortWait : ℕ → State → ℕ → List (ℕ × Move) → Type 0
IsShortWait most s t ms =
    KeepsWaiting IsInQueue t s ms → count_in goes_on s ms ≤ most * (length s.phases - 1)

-- some moves lead to this state from a new lock with n threads, on enough words, all 0; a refused
-- move changes nothing
pub record IsReached (kind : LockKind) (n : ℕ) (s : State) : Type 0 where
  pub bits : ℕ
  pub words : List ℕ
  pub moves : List (ℕ × Move)
  pub few : n ≤ 64
  pub narrow : n < 2 ^ bits
  pub enough : word_count kind n ≤ length words
  pub clear : (i : ℕ) → i < length words → slice_index words i ≡ 0
  pub leads : state_after (start kind bits words n) moves ≡ s

abbrev pub IsStarvationFree : LockKind → ℕ → Type 0
IsStarvationFree kind most =
    (n : ℕ) (s : State) (t : ℕ) (ms : List (ℕ × Move)) → IsReached kind n s
    → IsShortWait most s t ms

-- A run in which a thread waits in this phase and never enters, though it polls in each of these
-- rounds. Others go on in each of them, and none of them polls in vain.
pub record IsKeptOut (kind : LockKind) (p : Phase) (n rounds : ℕ) : Type 0 where
  pub thread : ℕ
  pub state : State
  pub moves : List (ℕ × Move)
  pub reached : IsReached kind n state
  pub waits : KeepsWaiting (λ now. now ≡ p) thread state moves
  pub polls : rounds ≤ count_in (λ s t m. is_failed_poll s t m && t == thread) state moves
  pub others_go_on : rounds ≤ count_in goes_on state moves
  pub no_other_polls : count_in (λ s t m. is_failed_poll s t m && not (t == thread)) state moves ≡ 0

-- a thread that waits in this phase can starve, beside two other threads or more
abbrev pub CanStarve : LockKind → Phase → Type 0
CanStarve kind p = (n rounds : ℕ) → 3 ≤ n → n ≤ 64 → IsKeptOut kind p n rounds
