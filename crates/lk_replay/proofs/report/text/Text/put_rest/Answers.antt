-- The copied bytes begin with the rest.
use Rattle.std.proofs.Common.{◌-◌, arith}
use Rattle.lk_replay.proofs.Texts.{rest_put}
use Rattle.lk_replay.proofs.report.text.Text.put_rest.Goals as goal

pub returns-then-len-le-SHORT-clause-text : goal.returns-then-len-le-SHORT-clause-text
returns-then-len-le-SHORT-clause-text c =
    let inside = c.self.inside in
    rest_put c.args.place.now c.copy_from_slice.new.self inside.bytes c.args.self.now c.args.at
    inside.len 32 c.copy_from_slice.ensures.after (omega arith) (omega arith) (omega arith)
    (omega (arith, c.requires.room)) c.requires.some c.self.view_is

pub returns-clause-text : goal.returns-clause-text
returns-clause-text c =
    let inside = c.self.inside in
    rest_put c.args.place.now _ inside.bytes c.args.self.now c.args.at inside.len (inside.len - 1)
    c.copy_from_slice-2.ensures.after (omega arith) (omega arith) (omega arith)
    (omega (arith, c.requires.room)) c.requires.some c.self.view_is
