-- The last line is what stands after the last line feed of the body, or the whole body.
use Rattle.std.proofs.Common.{rules, codes}
use Rattle.std.proofs.lemmas.Bool.Decides.{Decides-eqb}
use Rattle.std.proofs.lemmas.Slice.Eq.{strip_suffix_is}
use Rattle.lk_replay.proofs.LastLines.{body_after, body_alone, body_is}
use Rattle.lk_replay.proofs.ending.last_line_of.Goals as goal

pub returns-in-Some : goal.returns-in-Some
returns-in-Some c =
    body_after _ _ c.in-Some.at (body_is _ _ _ c.unwrap_or-body.ensures
    (strip_suffix_is Decides-eqb _ (codes "\n") _ c.strip_suffix.ensures.cases))
    (search rules) (search rules) (search rules)

pub returns-in-None : goal.returns-in-None
returns-in-None c =
    body_alone _ _ (body_is _ _ _ c.unwrap_or-body.ensures
    (strip_suffix_is Decides-eqb _ (codes "\n") _ c.strip_suffix.ensures.cases)) (search rules)
