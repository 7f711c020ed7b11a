-- Files that were checked, each in its place: an ending is that of an input.
use Rattle.std.proofs.Common.{◌≡◌, ◌++◌, ◌∷◌, ℕ, List, All, sym}
use Rattle.std.proofs.Common.{Option, Some, None, option_to_list, unwrap_or}
use Rattle.std.proofs.Common.{Result, Ok, Err, IfOk}
use Rattle.std.specs.declared.alloc.AllocError.{AllocError}
use Rattle.std.proofs.lemmas.List.Elements.{All-head, All-rest, All-same}
use Rattle.lk_text.specs.Sources.{left_in}
use Rattle.lk_text.specs.Verdicts.{EndsInput}
use Rattle.lk_text.specs.declared.inputs.Source.TheVariants.{File}
use Rattle.lk_text.specs.declared.report.Report.{Report}

-- the ending of such an input, unless memory was refused
abbrev pub IsOf : {I : Type 0} → (I → Option (List ℕ)) → Result Report AllocError → Type 0
IsOf remaining checked = IfOk checked (λ report. EndsInput remaining report.ending)

-- the next of several, or another one, and those after it
pub next_of : {X : Type 0} (P : X → Type 0) (old new : List X) (r : Option X) (other : X)
    → old ≡ option_to_list r ++ new → P other → All P old → P (unwrap_or r other) × All P new
next_of P old new None other is here all = (here, All-same P new old (sym is) all)
next_of P old new (Some x) other is here all =
    (All-head P x new (All-same P (x ∷ new) old (sym is) all), All-rest P x new old is all)

-- what is so of files is so of files and standard input
pub widened : {F S : Type 0} (of_file : F → Option (List ℕ)) (of_input : S → Option (List ℕ))
    (checked : Result Report AllocError) → IsOf of_file checked
    → IsOf (left_in of_file of_input) checked
widened of_file of_input (Ok report) is = λ read. (File (is read).0, (is read).1)
widened of_file of_input (Err e) is = tt
