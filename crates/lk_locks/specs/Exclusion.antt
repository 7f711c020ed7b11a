-- Definitions. Mutual exclusion, in its own words: laws of every legal history.
use Rattle.std.specs.Prelude.{◌≡◌, ℕ, List, [], ◌∷◌, ◌++◌, Option, None, Some, ◌⊎◌, IsTrue, Any}
use Rattle.lk_locks.specs.Locks.{family_of}
use Rattle.lk_locks.specs.Sequential.{Sequential, after_acts, nobody, is_head}
use Rattle.lk_locks.specs.Legal.{Legal, after_entries}
use Rattle.lk_locks.specs.Holding.{holder_after}
use Rattle.lk_locks.specs.Types.{LockKind, ReadUnlock, WriteLock, WriteUnlock, Downgrade, Announced}
use Rattle.lk_locks.specs.Types.{RwFifo, Queue, Acquire, Release, ReadLock, Entry, Acted, Returned}

-- between each a and each later b is an entry that meets P
abbrev pub Between : Entry → Entry → (Entry → Type 0) → List Entry → Type 0
Between a b P es =
    (before middle after : List Entry) → es ≡ before ++ a ∷ middle ++ b ∷ after → Any P middle

abbrev pub IsQueueLock : LockKind → Type 0
IsQueueLock kind = family_of kind ≡ Queue

-- Queue locks. A law of acquires holds of the histories of all locks: a read-write lock has none.

-- between the return of an acquire and the return of a later one is the act of the first one's
-- release
abbrev pub HasOneHolder : List Entry → Type 0
HasOneHolder es =
    (t u : ℕ) → Between (Returned t Acquire) (Returned u Acquire) (λ e. e ≡ Acted t Release) es

-- the entry may come with this holder: an acquire returns only if nobody holds the lock, and only
-- the holder releases it
abbrev pub MayHold : Option ℕ → Entry → Type 0
MayHold h (Returned t Acquire) = h ≡ None
MayHold h (Acted t Release) = h ≡ Some t
MayHold h e = Unit {0}

abbrev pub IsHeldInTurn : Option ℕ → List Entry → Type 0
IsHeldInTurn h [] = Unit {0}
IsHeldInTurn h (e ∷ es) = MayHold h e × IsHeldInTurn (holder_after h (e ∷ [])) es

-- the holder is the head of the queue
abbrev pub IsHeldByHead : LockKind → List Entry → Type 0
IsHeldByHead kind es =
    (t : ℕ) → holder_after None es ≡ Some t
    → IsTrue (is_head (after_entries (nobody kind) es).queue t)

-- Read-write locks

-- t stops writing, by an unlock or by a downgrade
abbrev pub StopsWriting : ℕ → Entry → Type 0
StopsWriting t e = (e ≡ Acted t WriteUnlock) ⊎ (e ≡ Acted t Downgrade)

-- between two writers the first stops writing
abbrev pub HasOneWriter : List Entry → Type 0
HasOneWriter es =
    (t u : ℕ) → Between (Acted t WriteLock) (Acted u WriteLock) (StopsWriting t) es

-- A reader enters only after the writer before it stopped writing, and a writer only after each
-- reader before it left, and each writer that became a reader. After each prefix of the history the
-- acts, allowed or not, leave no reader beside a writer.
pub record IsNeverBesideReader (kind : LockKind) (es : List Entry) : Type 0 where
  pub then_reader : (t u : ℕ)
      → Between (Acted t WriteLock) (Acted u ReadLock) (StopsWriting t) es
  pub then_writer : (t u : ℕ)
      → Between (Acted t ReadLock) (Acted u WriteLock) (λ e. e ≡ Acted t ReadUnlock) es
  pub downgraded_writer : (t u : ℕ)
      → Between (Acted t Downgrade) (Acted u WriteLock) (λ e. e ≡ Acted t ReadUnlock) es
  pub no_reader : (before after : List Entry) → es ≡ before ++ after
      → let now : Sequential = after_acts (nobody kind) before in
      (w : ℕ) → now.writer ≡ Some w → now.readers ≡ []

-- an announced FIFO writer enters before a later reader enters, and before another writer announces
-- itself
pub record IsAnnouncedFirst (es : List Entry) : Type 0 where
  pub then_reader : (t u : ℕ)
      → Between (Announced t) (Acted u ReadLock) (λ e. e ≡ Acted t WriteLock) es
  pub then_announced : (t u : ℕ)
      → Between (Announced t) (Announced u) (λ e. e ≡ Acted t WriteLock) es

abbrev pub AnnouncedWriterGoesFirst : Type 0
AnnouncedWriterGoesFirst = (n : ℕ) (es : List Entry) → Legal RwFifo n es → IsAnnouncedFirst es
