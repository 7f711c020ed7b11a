-- Definitions: the bytes of a reader or a writer after a transfer that may have stopped, over std's
-- words for a device whose bytes are known.
use Rattle.std.specs.Prelude.{◌≡◌, ℕ, ◌≤◌, List, ◌++◌, length, take, Option, Result, Err}
use Rattle.std.specs.Io.KnownBytes.{Appends}
use Rattle.lk_replay.specs.declared.devices.RunFault.{RunFault}

-- known bytes grew by a prefix of these bytes
abbrev pub AppendsPrefix : Option (List ℕ) → Option (List ℕ) → List ℕ → Type 0
AppendsPrefix old new bytes = (n : ℕ) × (n ≤ length bytes) × Appends old new (take n bytes)

-- bytes went after what waited: what the output got, and then what waits now, is what waited and
-- then the bytes
abbrev pub Passes : List ℕ → Option (List ℕ) → List ℕ → List ℕ → Option (List ℕ) → Type 0
Passes waited old bytes waits new =
    (sent : List ℕ) × Appends old new sent × (sent ++ waits ≡ waited ++ bytes)

-- P, if the result is that error
abbrev pub IfErrOf : {T : Type 0} → Result T RunFault → RunFault → Type 0 → Type 0
IfErrOf r fault P = r ≡ Err fault → P
