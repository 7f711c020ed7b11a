-- The digits end where 16 bytes do, and those bytes go to the front of the place.
use Rattle.std.proofs.Common.{◌-◌, ◌∙◌, ap, arith, drop, rules, take}
use Rattle.std.proofs.lemmas.Fmt.{length-decimal-le}
use Rattle.std.proofs.lemmas.List.{take-take, take_at}
use Rattle.lk_replay.proofs.report.numerals.put_count.Goals as goal

pub write_digits-start-requires : goal.write_digits-start-requires
write_digits-start-requires c = search (rules, length-decimal-le 16)

pub returns-clause-text : goal.returns-clause-text
returns-clause-text c =
    let start = c.write_digits-start.result in
    c.put_block.ensures.text
    ∙ take-take (16 - start) (32 - start) (drop start c.write_digits-start.new.buf) (omega arith)
    ∙ ap (take (16 - start)) c.write_digits-start.ensures.written
    ∙ take_at _ _ (16 - start) (omega (arith, c.write_digits-start.ensures.start))
