-- Definitions. Freedom from deadlock, in finite form: a law of every list of moves.
--
-- Herlihy and Shavit, The Art of Multiprocessor Programming, chapter 2: a lock is free from
-- deadlock if some thread enters whenever some thread tries to, and free from starvation if each
-- thread that tries to enters in the end. Both speak of runs without end, in which holders release
-- and each thread that can take a step takes one in the end. Different here: runs end, nobody has
-- to release, and no scheduler has to be fair. After any moves some thread can go on, unless all
-- are idle, and all come to rest if they go on and nobody calls for the lock. A fair scheduler and
-- holders that release add that they do go on. Then freedom from deadlock follows: while nobody
-- enters, each thread calls for the lock at most once, so from some moment on nothing is left but
-- failed polls, which keep no thread from going on.
use Rattle.std.specs.Prelude.{◌≡◌, ℕ, ◌*◌, ◌^◌, ◌<◌, ◌≤◌, ◌⊎◌, List, [], ◌∷◌, length, slice_index}
use Rattle.std.specs.Prelude.{is_some, Bool, true, false}
use Rattle.lk_locks.specs.State.{State, phase_at, start}
use Rattle.lk_locks.specs.Steps.{accepts, after_move, change_of}
use Rattle.lk_locks.specs.Locks.{after_call, word_count}
use Rattle.lk_locks.specs.Types.{LockKind, Ticket, Mcs, RwSimple, RwFifo, Idle, Move, Call, Step}
use Rattle.lk_locks.specs.Types.{Outcome, Waits}

-- the most moves of a thread from its call for the lock until it is idle again, without this call
-- and without failed polls
abbrev pub most_moves : LockKind → ℕ
most_moves Ticket = 5
most_moves Mcs = 10
most_moves RwSimple = 5
most_moves RwFifo = 6

-- a call for the lock, as an idle thread makes
abbrev pub is_acquiring : LockKind → Move → Bool
is_acquiring kind (Call op) = is_some (after_call kind Idle op)
is_acquiring kind (Step step) = false

abbrev pub is_wait : Outcome → Bool
is_wait Waits = true
is_wait outcome = false

-- the thread would find that it has to wait, and change nothing
abbrev pub is_failed_poll : State → ℕ → Move → Bool
is_failed_poll s t m = is_wait (change_of s t m).outcome

-- a move with which a thread goes on to the end of its call, or gives the lock back: it is
-- accepted, and is neither a call for the lock nor a failed poll
pub record IsFinishing (s : State) (t : ℕ) (m : Move) : Type 0 where
  pub accepted : accepts s t m ≡ true
  pub acquires_not : is_acquiring s.kind m ≡ false
  pub waits_not : is_failed_poll s t m ≡ false

pub record CanFinish (s : State) : Type 0 where
  pub thread : ℕ
  pub move : Move
  pub finishing : IsFinishing s thread move

-- nobody is in a call or holds the lock
abbrev pub IsAtRest : State → Type 0
IsAtRest s = (t : ℕ) → t < length s.phases → phase_at s.phases t ≡ Idle

-- moves one after another, all of them finishing ones
abbrev pub AreFinishing : State → List (ℕ × Move) → Type 0
AreFinishing s [] = Unit {0}
AreFinishing s (m ∷ ms) = IsFinishing s m.0 m.1 × AreFinishing (after_move s m.0 m.1) ms

-- the state after moves one after another
abbrev pub state_after : State → List (ℕ × Move) → State
state_after s [] = s
state_after s (m ∷ ms) = state_after (after_move s m.0 m.1) ms

-- Finishing moves are few, in any order. After them all threads are idle, or there is one more.
abbrev pub ComesToRest : State → Type 0
ComesToRest s =
    (ms : List (ℕ × Move)) → AreFinishing s ms
    → (length ms ≤ length s.phases * most_moves s.kind)
    × (IsAtRest (state_after s ms) ⊎ CanFinish (state_after s ms))

-- a lock comes to rest after each list of moves on a new lock, with enough words, all 0; a refused
-- move changes nothing
abbrev pub NoRunIsStuck : Type 0
NoRunIsStuck =
    (kind : LockKind) (bits : ℕ) (ws : List ℕ) (n : ℕ) (ms : List (ℕ × Move))
    → n ≤ 64 → n < 2 ^ bits → word_count kind n ≤ length ws
    → ((i : ℕ) → i < length ws → slice_index ws i ≡ 0)
    → ComesToRest (state_after (start kind bits ws n) ms)
