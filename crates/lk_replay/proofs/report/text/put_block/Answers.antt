-- The block's bytes come after those before it.
use Rattle.std.proofs.Common.{◌∙◌, arith}
use Rattle.lk_replay.proofs.Texts.{block_pushed}
use Rattle.lk_replay.proofs.report.text.put_block.Goals as goal

pub returns-clause-text : goal.returns-clause-text
returns-clause-text g c =
    block_pushed c.args.place.now c.copy_from_slice-2.new.self c.args.block.now c.args.at c.args.len
    g.row.N
    (c.copy_from_slice-2.ensures.after ∙ c.copy_from_slice.ensures.after) c.requires.wide
    c.requires.fits (omega (arith, c.requires.room))
