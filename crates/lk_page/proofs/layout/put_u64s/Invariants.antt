-- The bytes so far and those of the rest are the bytes before and those of all numbers.
use Rattle.std.proofs.Common.{◌≡◌, ◌+◌, ◌*◌, ◌++◌, drop, length}
use Rattle.std.specs.Int.{to_le_bytes, w64}
use Rattle.std.specs.List.{flat_map}
use Rattle.lk_page.proofs.layout.put_u64s.Given as goal

abbrev pub invariant-loop-number : goal.invariant-loop-number
invariant-loop-number g l = record {
  bytes : l.out.items ++ flat_map (to_le_bytes w64) (drop l.number-index l.numbers)
      ≡ l.initial.out.items ++ flat_map (to_le_bytes w64) l.numbers;
  size : length l.out.items ≡ length l.initial.out.items + 8 * l.number-index;
}
