-- Neither end is there.
use Rattle.std.proofs.Common.{◌≡◌, ◌-◌, ◌∙◌, ℕ, List, codes, drop, false, length, nat_eq, sym}
use Rattle.std.proofs.Common.{subst}
use Rattle.std.specs.List.{ends_with}
use Rattle.std.proofs.lemmas.Bool.{cond-false}
use Rattle.std.proofs.lemmas.Cmp.{nat_list_eq_equiv}
use lib.Pointwise.{pointwise}
use Rattle.lk_text.proofs.course.said_before.Goals as goal

no_end : (front end word : List ℕ) → end ≡ word
    → pointwise nat_eq (drop (length front - length end) front) end ≡ false
    → ends_with nat_eq front word ≡ false
no_end front end word is other =
    nat_list_eq_equiv.symm word (drop (length front - length word) front)
    ∙ subst (λ (l : List ℕ). pointwise nat_eq (drop (length front - length l) front) l ≡ false) is
    other

pub returns-in_err-number-in-None : goal.returns-in_err-number-in-None
returns-in_err-number-in-None c =
    let front = c.args.front.now in
    let has = no_end front _ (codes " has") c.as_slice.ensures c.in-None.ensures.cases in
    let has_not =
    no_end front _ (codes " has not") c.as_slice-in-None.ensures
    c.in_err-number-in-None.ensures.cases in
    c.from_residual-in_err-number-in-None.ensures
    ∙ sym (cond-false (ends_with nat_eq front (codes " has")) _ _ has
    ∙ cond-false (ends_with nat_eq front (codes " has not")) _ _ has_not)
