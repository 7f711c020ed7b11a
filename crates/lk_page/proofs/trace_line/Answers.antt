-- Eleven numbers go to the first places.
use Rattle.std.proofs.Common.{◌∙◌, length-take-le, sym}
use Rattle.lk_page.proofs.trace_line.Goals as goal

pub copy_from_slice-requires : goal.copy_from_slice-requires
copy_from_slice-requires c =
    length-take-le 11 c.args.parts.now c.if-parts-lt-PARTS.false ∙ sym c.parts_of.ensures.size
