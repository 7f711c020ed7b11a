-- The next report is that of the next place.
use Rattle.std.proofs.Common.{◌∷◌, ◌∙◌, [], ap, arith, length, length-append, sym}
use Rattle.std.proofs.lemmas.List.{take-append-le}
use Rattle.std.proofs.lemmas.List.Elements.{All-same, All-take}
use Rattle.std.proofs.lemmas.Result.{IfOk-at_ok}
use Rattle.lk_text.specs.Sources.{left_in}
use Rattle.lk_text.specs.Verdicts.{EndsInput}
use Rattle.lk_text.proofs.Endings.{one_more}
use Rattle.lk_checks.proofs.Places.{IsOf, next_of, widened}
use Rattle.lk_checks.proofs.check.check_round.Goals as goal

pub loop-name-init : goal.loop-name-init
loop-name-init g c = record {
  adds = record { one_each = omega arith; each = λ all. all };
  late =
      All-same (λ place. IsOf g.R.File.Read.remaining place.1) _ _
      (c.into_iter-checked.ensures.rest
      ∙ take-append-le c.in_ok-places.places.len c.check_side_by_side.new.places _
      (omega (arith, c.check_side_by_side.ensures.same, c.deref_mut.ensures.len)))
      (All-take (λ place. IsOf g.R.File.Read.remaining place.1) c.in_ok-places.places.len
      c.check_side_by_side.new.places c.check_side_by_side.ensures.each);
}

pub loop-name-preserved : goal.loop-name-preserved
loop-name-preserved g c =
    let next = next_of (λ place. IsOf g.R.File.Read.remaining place.1)
    c.loop-name.checked.rest.items c.next.new.self.rest.items c.next.result _
    c.next.ensures.items tt c.loop-name.invariant.late in
    record {
      adds = record {
        one_each =
            omega (
              arith,
              c.loop-name.invariant.adds.one_each,
              ap length c.in_ok-put.ensures,
              length-append c.loop-name.reports.endings.items
                  (c.in_ok-report.field-0.ending ∷ []),
            );
        each = λ all.
            one_more (EndsInput (left_in g.R.File.Read.remaining g.R.Reader.Read.remaining)) _ _ _
            c.in_ok-put.ensures (c.loop-name.invariant.adds.each all)
            (IfOk-at_ok
            (λ report.
            EndsInput (left_in g.R.File.Read.remaining g.R.Reader.Read.remaining) report.ending)
            (sym (ap (λ place. place.1) c.unwrap_or-report.ensures) ∙ c.in_ok-report.was)
            (widened g.R.File.Read.remaining g.R.Reader.Read.remaining _ next.0));
      };
      late = next.1;
    }
