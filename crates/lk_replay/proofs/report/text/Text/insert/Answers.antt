-- The bytes are between the two parts.
use Rattle.std.proofs.Common.{◌++◌, ◌∙◌, length, length-take-le, List, ℕ, ap, arith, take, drop}
use Rattle.lk_replay.proofs.Texts.{text_put_in}
use Rattle.lk_replay.proofs.report.text.Text.insert.Goals as goal

pub returns : goal.returns
returns c =
    let inside = c.self.inside in
    let text = take c.args.len c.args.block.now in
    let size = length-take-le inside.len inside.bytes (omega arith) in
    let wide =
    length-take-le c.args.len c.args.block.now (omega (arith, c.requires.fits, c.told-block)) in
    text_put_in inside.bytes c.copy_within.new.self c.copy_from_slice.new.self text c.args.at
    c.args.len inside.len (omega (arith, c.requires.place, ap length c.self.view_is))
    (omega (arith, c.requires.room, c.requires.fits, ap length c.self.view_is)) wide
    c.copy_from_slice.ensures.after c.copy_within.ensures.after
    ∙ ap (λ (xs : List ℕ). (take c.args.at xs ++ text) ++ drop c.args.at xs) c.self.view_is
