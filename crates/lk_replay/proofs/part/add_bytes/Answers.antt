-- The part grows with its text.
use Rattle.std.proofs.Common.{◌≡◌, ◌-◌, arith, drop, length, length-drop, take, take_all}
use Rattle.lk_replay.proofs.Parts.{part_grows}
use Rattle.lk_replay.proofs.part.add_bytes.Goals as goal

pub returns : goal.returns
returns c = λ first text size is.
    let bytes = c.args.bytes.now in
    let from = c.min-from.result in
    let rest : take (length bytes - from) (drop from bytes) ≡ drop from bytes =
    take_all _ _ (omega (arith, length-drop from bytes)) in
    part_grows first text bytes c.args.room.now c.copy_to.new.room c.args.skip c.args.at
    c.min-to.result from size is (omega arith) (omega arith) (rw rest at c.copy_to.ensures)
