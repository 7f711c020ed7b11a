-- The bytes after them move to their place.
use Rattle.std.proofs.Common.{◌++◌, ◌∙◌, ◌+◌, length, length-take-le, List, ℕ, ap, arith, take}
use Rattle.std.proofs.Common.{drop}
use Rattle.lk_replay.proofs.Texts.{text_taken_out}
use Rattle.lk_replay.proofs.report.text.Text.remove.Goals as goal

pub returns : goal.returns
returns c =
    let inside = c.self.inside in
    let size = length-take-le inside.len inside.bytes (omega arith) in
    text_taken_out inside.bytes c.copy_within.new.self c.args.at c.args.count inside.len
    (omega (arith, c.requires, ap length c.self.view_is)) (omega arith) c.copy_within.ensures.after
    ∙ ap (λ (xs : List ℕ). take c.args.at xs ++ drop (c.args.at + c.args.count) xs) c.self.view_is
