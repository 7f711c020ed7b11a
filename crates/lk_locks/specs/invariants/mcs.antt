-- Invariants. The MCS lock: the phases and links in range, the entries that a pending call has
-- still to add, and how words and phases agree with the queue, in which links may be missing.
use Rattle.std.specs.Prelude.{◌≡◌, ◌≢◌, ℕ, ◌+◌, ◌<◌, ◌≤◌, List, [], ◌∷◌, length, slice_index}
use Rattle.std.specs.Prelude.{true, false, is_some, IsTrue}
use Rattle.lk_words.specs.declared.operation.Answer.{Answer}
use Rattle.lk_words.specs.declared.operation.Answer.TheVariants.{Found}
use Rattle.lk_locks.specs.State.{phase_at}
use Rattle.lk_locks.specs.Change.{acts}
use Rattle.lk_locks.specs.Sequential.{has, is_head}
use Rattle.lk_locks.specs.mcs.{tail, next, locked, operation}
use Rattle.lk_locks.specs.invariants.Threads.{EachOnce}
use Rattle.lk_locks.specs.Types.{Phase, Idle, ClearNext, SwapTail, SetLocked, LinkTo, AwaitGrant}
use Rattle.lk_locks.specs.Types.{McsInside, ReadNext, CasTail, AwaitLink, Grant, Acquire, Release}
use Rattle.lk_locks.specs.Types.{Entry, Returned}

-- a thread is idle, inside, or before a step; the threads that a phase names are among the n
abbrev pub IsPhase : ℕ → Phase → Type 0
IsPhase n (SetLocked j) = j < n
IsPhase n (LinkTo j) = j < n
IsPhase n (Grant j) = j < n
IsPhase n Idle = Unit {0}
IsPhase n McsInside = Unit {0}
IsPhase n p = IsTrue (is_some (operation 0 p))

-- the tail and each link name one of the n threads, or none
abbrev pub AreLinks : ℕ → List ℕ → Type 0
AreLinks n ws = (slice_index ws tail ≤ n) × ((i : ℕ) → i < n → slice_index ws (next i) ≤ n)

-- the entries that the pending call of thread i has still to add to the history
abbrev pub owed_of : ℕ → Phase → List Entry
owed_of i ClearNext = acts i Acquire
owed_of i SwapTail = acts i Acquire
owed_of i (SetLocked j) = Returned i Acquire ∷ []
owed_of i (LinkTo j) = Returned i Acquire ∷ []
owed_of i AwaitGrant = Returned i Acquire ∷ []
owed_of i ReadNext = acts i Release
owed_of i CasTail = acts i Release
owed_of i AwaitLink = acts i Release
owed_of i (Grant j) = acts i Release
owed_of i p = []

-- an answer that names a thread, or none: a link is below 65, since there are at most 64 threads
abbrev pub IsInRange : Phase → Answer → Type 0
IsInRange AwaitGrant answer = Unit {0}
IsInRange p (Found link) = link ≤ 64
IsInRange p answer = Unit {0}

-- the words of thread i's record
abbrev pub next_of : List ℕ → ℕ → ℕ
next_of ws i = slice_index ws (next i)

abbrev pub locked_of : List ℕ → ℕ → ℕ
locked_of ws i = slice_index ws (locked i)

-- the last of a queue whose first is u
abbrev pub last_of : ℕ → List ℕ → ℕ
last_of u [] = u
last_of u (t ∷ q) = last_of t q

-- the tail names the last, and is nil if there is none
abbrev pub tail_of : List ℕ → ℕ
tail_of [] = 0
tail_of (t ∷ q) = last_of t q + 1

-- Thread t, in this phase, is the successor of u. Until t has linked itself, its phase names u,
-- whose next is nil; from then on the next of u names t.
abbrev pub IsSuccessor : List ℕ → ℕ → ℕ → Phase → Type 0
IsSuccessor ws u t (SetLocked j) = (j ≡ u) × (next_of ws u ≡ 0)
IsSuccessor ws u t (LinkTo j) = (j ≡ u) × (next_of ws u ≡ 0) × (locked_of ws t ≡ 1)
IsSuccessor ws u t AwaitGrant = (next_of ws u ≡ t + 1) × (locked_of ws t ≡ 1)
IsSuccessor ws u t p = ⊥

-- the queue after u; the next of its last thread is nil
abbrev pub IsRest : List ℕ → List Phase → ℕ → List ℕ → Type 0
IsRest ws ps u [] = next_of ws u ≡ 0
IsRest ws ps u (t ∷ q) = IsSuccessor ws u t (phase_at ps t) × IsRest ws ps t q

-- The head t, in this phase, and the rest q. If t polls `locked`, it has been granted the lock; if
-- it polls `next`, q is not empty; if it grants, its next names the first of q.
abbrev pub IsHead : List ℕ → ℕ → List ℕ → Phase → Type 0
IsHead ws t q AwaitGrant = locked_of ws t ≡ 0
IsHead ws t q McsInside = Unit {0}
IsHead ws t q ReadNext = Unit {0}
IsHead ws t q CasTail = Unit {0}
IsHead ws t q AwaitLink = q ≢ []
IsHead ws t q (Grant j) = (is_head q j ≡ true) × (next_of ws t ≡ j + 1)
IsHead ws t q p = ⊥

abbrev pub AreLinked : List ℕ → List Phase → List ℕ → Type 0
AreLinked ws ps [] = Unit {0}
AreLinked ws ps (t ∷ q) = IsHead ws t q (phase_at ps t) × IsRest ws ps t q

-- a thread that is not in the queue. In `SwapTail` its next is nil
abbrev pub IsNotQueued : List ℕ → ℕ → Phase → Type 0
IsNotQueued ws t Idle = Unit {0}
IsNotQueued ws t ClearNext = Unit {0}
IsNotQueued ws t SwapTail = next_of ws t ≡ 0
IsNotQueued ws t p = ⊥

-- Words and phases agree with this queue: the tail names its last thread, its members are linked as
-- far as their phases say, no thread is in it twice, and no other thread is queued.
pub record IsQueue (ws : List ℕ) (ps : List Phase) (queue : List ℕ) : Type 0 where
  pub tail_is : slice_index ws tail ≡ tail_of queue
  pub links : AreLinked ws ps queue
  pub once : EachOnce queue
  pub members : (t : ℕ) → has queue t ≡ true → t < length ps
  pub others : (t : ℕ) → has queue t ≡ false → IsNotQueued ws t (phase_at ps t)
