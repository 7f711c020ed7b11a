-- `all` over the endings is the test over the texts.
use Rattle.std.proofs.Common.{Bool, true, false, if◌then◌else◌, ◌≡◌, ◌∙◌, sym, ap, List, ℕ, Vec}
use Rattle.std.proofs.Common.{Global, map, rules, tests}
use Rattle.std.proofs.lemmas.Iterator.{YieldsList-from_slice}
use Rattle.std.proofs.lemmas.Iterator.Search.{all_from_yields_List}
use Rattle.std.proofs.lemmas.List.Folds.{list_all-map}
use Rattle.std.specs.List.{list_all}
use Rattle.lk_replay.specs.Ending.{ending_of}
use Rattle.lockreplay.specs.Jobs.{is_accepted, status_of_reports}
use Rattle.lockreplay.proofs.jobs.batch_status.Goals as goal

status_is : (rs : List (Vec ℕ Global)) (b : Bool)
    → b ≡ list_all (λ r. is_accepted (ending_of r.items)) rs
    → (if b then 0 else 1) ≡ status_of_reports (map (λ r. r.items) rs)
status_is rs b is = ap (λ (a : Bool). if a then 0 else 1)
    (is ∙ sym (list_all-map (λ t. is_accepted (ending_of t)) (λ r. r.items) rs))

pub returns-then-accepted : goal.returns-then-accepted
returns-then-accepted c =
    let xs = c.args.reports.now in
    let all =
    all_from_yields_List (λ r. is_accepted (ending_of r.items)) _ _ c.all-accepted.result
    c.all-accepted.ensures.ran (YieldsList-from_slice xs cc) (λ x b q k. search (rules, tests)) in
    status_is xs true (sym c.if-accepted.true ∙ all)

pub returns-else-accepted : goal.returns-else-accepted
returns-else-accepted c =
    let xs = c.args.reports.now in
    let all =
    all_from_yields_List (λ r. is_accepted (ending_of r.items)) _ _ c.all-accepted.result
    c.all-accepted.ensures.ran (YieldsList-from_slice xs cc) (λ x b q k. search (rules, tests)) in
    status_is xs false (sym c.if-accepted.false ∙ all)
