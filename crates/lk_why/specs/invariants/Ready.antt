-- Invariants. The words and the phase from which a changed lock takes a step: those of the lock, as
-- far as its steps rest on them.
use Rattle.std.specs.Prelude.{◌≡◌, ℕ, ◌<◌, ◌≤◌, ◌^◌, List, None, Option, Some, length}
use Rattle.std.specs.List.{All}
use Rattle.lk_locks.specs.Locks.{word_count}
use Rattle.lk_locks.specs.State.{Shape}
use Rattle.lk_locks.specs.invariants.Locks.{AreLinks, IsPhaseOf}
use Rattle.lk_why.specs.Types.{AwaitTurn, LockKind, Mcs, PassOn, Phase, ReadServing, TicketInside}

-- the number of a phase that has one: a ticket, or a value read
abbrev pub number_of : Phase → ℕ
number_of (AwaitTurn n) = n
number_of (TicketInside n) = n
number_of (ReadServing n) = n
number_of (PassOn n) = n
number_of p = 0

-- each word may have this value: in an MCS lock it names one of the n threads, or none
abbrev pub IsLink : LockKind → ℕ → ℕ → Type 0
IsLink Mcs n v = v ≤ n
IsLink kind n v = Unit {0}

pub record IsValue (s : Shape) (v : ℕ) : Type 0 where
  pub fits : v < 2 ^ s.bits
  pub link : IsLink s.kind s.threads v

abbrev pub IsHalf : Shape → Option ℕ → Type 0
IsHalf s None = Unit {0}
IsHalf s (Some v) = IsValue s v

pub record AreWords (s : Shape) (ws : List ℕ) : Type 0 where
  pub few : s.threads ≤ 4
  pub narrow : s.threads < 2 ^ s.bits
  pub size : length ws ≡ word_count s.kind s.threads
  pub fit : All (λ (w : ℕ). w < 2 ^ s.bits) ws
  pub links : AreLinks s.kind s.threads ws

pub record IsReady (s : Shape) (p : Phase) : Type 0 where
  pub fits : IsPhaseOf s.kind s.threads p
  pub number : number_of p < 2 ^ s.bits
