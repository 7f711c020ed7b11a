-- Each ending of a job is that of an input, unless it could not be read.
use Rattle.std.proofs.Common.{◌≡◌, ◌≢◌, ◌++◌, ◌∷◌, [], ℕ, List, ap}
use Rattle.std.proofs.Common.{Option, Some, None, IfSome, Result, Ok, Err, IfOk, All}
use Rattle.std.proofs.lemmas.List.Elements.{All-push, All-same}
use Rattle.lk_text.specs.Verdicts.{EndsInput, IsOfText, Verdict, verdict_of}
use Rattle.lk_text.specs.declared.report.Ending.TheVariants.{Unread}
use Rattle.lk_text.specs.declared.report.Report.{Report}

ending_is : (known : Option (List ℕ)) (report : Report) → IfSome known (IsOfText report)
    → report.ending ≢ Unread → IfSome known (λ text. report.ending ≡ (verdict_of text).ending)
ending_is None report is read = tt
ending_is (Some text) report is read = ap (λ (v : Verdict). v.ending) (is.verdict_is read)

-- a report of an input that was followed
pub input_followed : {I E : Type 0} (remaining : I → Option (List ℕ)) (input : I)
    (r : Result Report E) → IfOk r (λ report. IfSome (remaining input) (IsOfText report))
    → IfOk r (λ report. EndsInput remaining report.ending)
input_followed remaining input (Ok report) is =
    λ read. (input, ending_is (remaining input) report is read)
input_followed remaining input (Err e) is = tt

-- one ending more
pub one_more : {X : Type 0} (P : X → Type 0) (old new : List X) (x : X) → new ≡ old ++ x ∷ []
    → All P old → P x → All P new
one_more P old new x is all here = All-same P new (old ++ x ∷ []) is (All-push P old x all here)
