-- The texts of a batch: the next report after its line, or none.
use Rattle.std.proofs.Common.{◌≡◌, ℕ, suc, ◌+◌, ◌<◌, ◌≤◌, Vec, Global, List, [], ◌∷◌, ◌++◌, length}
use Rattle.std.proofs.Common.{get_or, drop, drop-cons, add-one, codes, decimal, sym, ap, ap₂, ◌∙◌}
use Rattle.std.proofs.Common.{append_assoc}
use Rattle.std.proofs.lemmas.List.{drop_all}
use Rattle.lk_workers.specs.Batch.{numbered_from}
use Rattle.lk_workers.specs.invariants.Collected.{bytes_of}

-- a report with its line, before others
abbrev pub with_line : List ℕ → List ℕ → List ℕ → List ℕ
with_line digits report more = codes "file " ++ (digits ++ (codes "\n" ++ (report ++ more)))

line_apart : (digits report more : List ℕ)
    → (((codes "file " ++ digits) ++ codes "\n") ++ report) ++ more ≡ with_line digits report more
line_apart digits report more =
    append_assoc ((codes "file " ++ digits) ++ codes "\n") report more
    ∙ append_assoc (codes "file " ++ digits) (codes "\n") (report ++ more)
    ∙ append_assoc (codes "file ") digits (codes "\n" ++ (report ++ more))

-- the next report, after its line
pub next_report : (place : ℕ) (reports : List (Vec ℕ Global)) (r : Vec ℕ Global)
    (digits text : List ℕ)
    → place < length reports → r ≡ get_or reports place r
    → digits ≡ decimal (place + 1) → text ≡ r.items
    → numbered_from (place + 1) (bytes_of (drop place reports))
    ≡ with_line digits text (numbered_from (place + 1 + 1) (bytes_of (drop (place + 1) reports)))
next_report place reports r digits text within at number same =
    let next : drop place reports ≡ r ∷ drop (place + 1) reports =
    drop-cons reports place r within
    ∙ rw add-one (ap (λ v. v ∷ drop (suc place) reports) (sym at)) in
    let rest = numbered_from (place + 1 + 1) (bytes_of (drop (place + 1) reports)) in
    ap (λ rs. numbered_from (place + 1) (bytes_of rs)) next
    ∙ line_apart (decimal (place + 1)) r.items rest
    ∙ ap₂ (λ d t. with_line d t rest) (sym number) (sym same)

-- no report is left
pub none_left : (place : ℕ) (reports : List (Vec ℕ Global)) → length reports ≤ place
    → numbered_from (place + 1) (bytes_of (drop place reports)) ≡ []
none_left place reports all =
    ap (λ rs. numbered_from (place + 1) (bytes_of rs)) (drop_all place reports all)
