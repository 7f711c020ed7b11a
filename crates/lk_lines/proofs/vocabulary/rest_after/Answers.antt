-- The stripped bytes come first.
use Rattle.std.proofs.Common.{◌-◌, Some, drop, length, refl, take}
use Rattle.std.proofs.{lemmas.Bool.Decides.Decides-eqb, lemmas.Slice.Eq.strip_prefix_is}
use Rattle.lk_lines.proofs.FirstMoves.{both_stripped, some_gives}
use Rattle.lk_lines.proofs.vocabulary.rest_after.Goals as goal

pub returns : goal.returns
returns c =
    let text = c.args.text.now in
    let bytes = c.args.bytes.now in
    let mid = c.in-Some.rest.now in
    some_gives c.strip_prefix-2.result _ _ _
    (strip_prefix_is Decides-eqb mid (take (length bytes - 4) (drop 4 bytes))
    c.strip_prefix-2.result c.strip_prefix-2.ensures.cases)
    (λ x next. both_stripped text bytes mid _ x.now
    (strip_prefix_is Decides-eqb text (take 4 bytes) (Some c.in-Some.rest) c.in-Some.ensures.cases)
    refl next)
