-- Definitions. Whether the sequential object allows the entries of a step, as a test. `Legal` of
-- the locks says the same of a whole history.
use Rattle.std.specs.Prelude.{◌≡◌, Bool, List, [], ◌∷◌, ◌&&◌, None, Option, Some, true}
use Rattle.lk_locks.specs.Sequential.{Sequential, after_entry, entry_of, is_allowed, is_head}
use Rattle.lk_why.specs.Types.{Acquire, Act, Acted, Announced, Entry, Returned}

-- an act is allowed, and an acquire returns to the head of the queue
abbrev pub is_enabled : Sequential → Entry → Bool
is_enabled s (Announced t) = is_allowed s (Announced t)
is_enabled s (Acted t op) = is_allowed s (Acted t op)
is_enabled s (Returned t Acquire) = is_head s.queue t
is_enabled s e = true

-- each entry is enabled after those before it
abbrev pub are_enabled : Sequential → List Entry → Bool
are_enabled s [] = true
are_enabled s (e ∷ es) = is_enabled s e && are_enabled (after_entry s e) es

-- the act is the one of which the entry tells
abbrev pub IsActOf : Entry → Option Act → Type 0
IsActOf (Acted t op) None = ⊥
IsActOf (Announced t) None = ⊥
IsActOf e None = Unit {0}
IsActOf e (Some act) = entry_of act ≡ e
