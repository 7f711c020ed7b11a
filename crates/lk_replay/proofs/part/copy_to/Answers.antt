-- As many bytes as fit are copied.
use Rattle.std.proofs.Common.{arith}
use Rattle.lk_replay.proofs.Parts.{copied}
use Rattle.lk_replay.proofs.part.copy_to.Goals as goal

pub returns : goal.returns
returns c =
    copied c.args.room.now c.args.bytes.now c.copy_from_slice.new.self c.args.to c.min-count.result
    c.requires (omega arith) c.copy_from_slice.ensures.after
