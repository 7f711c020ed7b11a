-- The copies are those of the texts so far.
use Rattle.std.proofs.Common.{◌≡◌, map, string_bytes, take}
use Rattle.lockreplay.proofs.command_line.copies_of.Given as goal

abbrev pub invariant-loop-text : goal.invariant-loop-text
invariant-loop-text l =
    map string_bytes l.copies.items ≡ map (λ t. t.now) (take l.text-index l.texts)
