-- Definitions: a part of a report, in room that a caller lends.
use Rattle.std.specs.Prelude.{ℕ, ◌+◌, ◌-◌, List, ◌++◌, drop, length, min, take}

-- the room with the bytes of a text from place `skip` on, as many as fit
abbrev pub with_part : List ℕ → ℕ → List ℕ → List ℕ
with_part room skip text = take (length room) (drop skip text) ++ drop (length text - skip) room

-- the number of these bytes, counted to one more than the room has
abbrev pub part_size : ℕ → ℕ → List ℕ → ℕ
part_size room skip text = min (length text - skip) (room + 1)
