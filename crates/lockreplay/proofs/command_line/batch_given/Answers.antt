-- The getters read what the rows hold.
use Rattle.std.proofs.Common.{length, map, ap, subst, subst₂, arith, sym, ◌≤◌, inl, inr}
use Rattle.std.proofs.lemmas.List.{length-map}
use Rattle.std.specs.Str.Parse.{ParsesUnsigned, ExplainsUnsignedError, HasUnsignedDigitsIfOk}
use Rattle.clap.specs.Words.{found_of}
use Rattle.lockreplay.specs.CommandLines.{AnswersBatch, IsUnfit}
use Rattle.lockreplay.proofs.ReadRows.{files_read, workers_read}
use Rattle.lockreplay.proofs.command_line.batch_given.Goals as goal

pub returns-clause-plain : goal.returns-clause-plain
returns-clause-plain c = λ workers files rows few many some.
    let found = found_of c.args.batch.now in
    let got =
    workers_read (λ bs r. ParsesUnsigned 8 10 bs r × ExplainsUnsignedError 10 bs r
    × HasUnsignedDigitsIfOk bs r) (λ t r g. g.0) found workers _ files c.get_one.result
    (omega (arith, many)) rows c.get_one.ensures.value c.unwrap_or-workers.ensures in
    let given =
    files_read (λ s. map (λ v. v.now) s.now) c.get_strs.result _ _ found workers files rows
    c.get_strs.ensures c.unwrap_or-given.ensures in
    let count = length-map c.unwrap_or-given.result.now (λ v. v.now) in
    subst₂ (λ w fs. AnswersBatch w fs c.batch_of.result) got given
    (c.batch_of.ensures.plain (omega (arith, got, few)) (omega (arith, got, many))
    (omega (arith, count, ap length given, some)))

pub returns-clause-unfit : goal.returns-clause-unfit
returns-clause-unfit c = λ workers files rows unfit.
    let most : workers ≤ 9 = elim unfit [
      | inl none ↦ omega (arith, none)
      | inr nine ↦ omega (arith, nine)
    ] in
    let got =
    workers_read (λ bs r. ParsesUnsigned 8 10 bs r × ExplainsUnsignedError 10 bs r
    × HasUnsignedDigitsIfOk bs r) (λ t r g. g.0) (found_of c.args.batch.now) workers _ files
    c.get_one.result most rows c.get_one.ensures.value c.unwrap_or-workers.ensures in
    c.batch_of.ensures.unfit (subst IsUnfit (sym got) unfit)
