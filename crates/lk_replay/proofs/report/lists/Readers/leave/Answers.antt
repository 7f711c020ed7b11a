-- The number is after those below it.
use Rattle.std.proofs.Common.{◌+◌, arith, refl}
use Rattle.lk_replay.proofs.Bits.{reader_leaves}
use Rattle.lk_replay.proofs.report.lists.Readers.leave.Goals as goal

pub remove-requires : goal.remove-requires
remove-requires c =
    (reader_leaves c.args.self.now c.self.inside.text c.self.inside.bits c.args.thread _
    (c.width.result + 1) c.self.invariant c.self.view_is c.requires.present c.requires.fits
    c.place_of-at.ensures (omega (arith, c.width.ensures.digits))).within

pub overflow_sub-self : goal.overflow_sub-self
overflow_sub-self c =
    (reader_leaves c.args.self.now c.self.inside.text c.self.inside.bits c.args.thread _
    (c.width.result + 1) c.self.invariant c.self.view_is c.requires.present c.requires.fits
    c.place_of-at.ensures (omega (arith, c.width.ensures.digits))).fits

pub invariant_of-self : goal.invariant_of-self
invariant_of-self c =
    ((reader_leaves c.args.self.now c.self.inside.text c.self.inside.bits c.args.thread _
    (c.width.result + 1) c.self.invariant c.self.view_is c.requires.present c.requires.fits
    c.place_of-at.ensures (omega (arith, c.width.ensures.digits))).after _ _ c.remove.ensures
    refl).0

pub returns : goal.returns
returns c =
    ((reader_leaves c.args.self.now c.self.inside.text c.self.inside.bits c.args.thread _
    (c.width.result + 1) c.self.invariant c.self.view_is c.requires.present c.requires.fits
    c.place_of-at.ensures (omega (arith, c.width.ensures.digits))).after _ _ c.remove.ensures
    refl).1
