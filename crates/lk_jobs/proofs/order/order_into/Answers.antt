-- Logs of which none is missing are those of one run.
use Rattle.std.proofs.Common.{◌≡◌, IsSome, None, Option, false, subst, true}
use Rattle.lk_jobs.proofs.Shelves.{run_taken}
use Rattle.lk_jobs.proofs.order.order_into.Goals as goal

none_is : {X : Type 0} (o : Option X) → o ≡ None → IsSome o → ⊥
none_is {X} o is some =
    let no : false ≡ true = subst (λ (o : Option X). IsSome o) is some in cc

pub returns-in_default : goal.returns-in_default
returns-in_default g c =
    absurd (none_is c.in_ok-search.field-0 c.in_default.is (c.in_ok-search.ensures.one_run.1
    (run_taken g.R.File.Read.remaining c.in_ok-taken.field-0 c.in-Ok.taken (λ t. t.shelf)
    c.in_ok-logs.logs.items c.in_ok-taken.ensures c.in-Ok.is c.in_ok-logs.ensures)))
