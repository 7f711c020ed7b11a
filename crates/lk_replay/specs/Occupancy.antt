-- Invariants: who holds a lock and who waits, entry by entry, and its text in a report.
use Rattle.std.specs.Prelude.{◌≡◌, ℕ, ◌+◌, ◌-◌, ◌*◌, ◌^◌, ◌<◌, List, [], ◌∷◌, Option, None, nat_lt}
use Rattle.std.specs.Prelude.{◌==◌, if◌then◌else◌}
use Rattle.std.specs.List.{AllByRecursion}
use Rattle.lk_locks.specs.Locks.{family_of}
use Rattle.lk_locks.specs.Holding.{held_in, holder_after, waits_in}
use Rattle.lk_locks.specs.Legal.{after_entries}
use Rattle.lk_locks.specs.Sequential.{IsAscending, Sequential, nobody}
use Rattle.lk_locks.specs.declared.kinds.LockKind.{LockKind}
use Rattle.lk_locks.specs.declared.kinds.Entry.{Entry}
use Rattle.lk_replay.specs.Report.{later_numbers, shown_text}

-- the sequential object, and who holds a queue lock
pub record Occupancy : Type 0 where
  pub kind : LockKind
  pub sequential : Sequential
  pub holder : Option ℕ

-- the occupancy after these further entries
abbrev pub occupancy_after : Occupancy → List Entry → Occupancy
occupancy_after o es = record {
  kind = o.kind;
  sequential = after_entries o.sequential es;
  holder = holder_after o.holder es;
}

-- the occupancy of a lock of this kind after these entries
abbrev pub occupancy_of : LockKind → List Entry → Occupancy
occupancy_of kind es =
    occupancy_after (record { kind = kind; sequential = nobody kind; holder = None }) es

-- the end of a report's line
abbrev pub occupancy_text : Occupancy → List ℕ
occupancy_text o =
    shown_text (held_in (family_of o.kind) o.sequential o.holder)
    (waits_in (family_of o.kind) o.sequential)

-- the threads of an ascending list below this one
abbrev pub below : List ℕ → ℕ → List ℕ
below [] t = []
below (x ∷ xs) t = if nat_lt x t then x ∷ below xs t else []

-- threads as the bits of a number
abbrev pub bits_of : List ℕ → ℕ
bits_of [] = 0
bits_of (x ∷ xs) = 2 ^ x + bits_of xs

-- the number that goes on with these digits, and the numbers after it
abbrev pub numbers_from : ℕ → List ℕ → List ℕ
numbers_from n [] = n ∷ []
numbers_from n (c ∷ cs) =
    if c == 44 then n ∷ numbers_from 0 cs else numbers_from (n * 10 + (c - 48)) cs

-- the numbers of a text in which each comes after a comma
abbrev pub numbers_in : List ℕ → List ℕ
numbers_in [] = []
numbers_in (comma ∷ cs) = numbers_from 0 cs

-- the text is that of a list of threads
pub record IsQueue (text : List ℕ) : Type 0 where
  pub listed : text ≡ later_numbers (numbers_in text)
  pub fit : AllByRecursion (λ t. t < 64) (numbers_in text)

-- text and bits are those of an ascending list of threads
pub record AreReaders (text : List ℕ) (bits : ℕ) : Type 0 where
  pub listed : text ≡ later_numbers (numbers_in text)
  pub fit : AllByRecursion (λ t. t < 64) (numbers_in text)
  pub ascending : IsAscending (numbers_in text)
  pub bits_are : bits ≡ bits_of (numbers_in text)
