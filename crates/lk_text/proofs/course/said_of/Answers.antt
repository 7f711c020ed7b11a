-- The words before and after the thread's number and what is said of it.
use Rattle.std.proofs.Common.{◌≡◌, ◌≤◌, ◌-◌, ◌∙◌, ℕ, List, ap, codes, drop}
use Rattle.std.proofs.Common.{le-ltb, length, nat_eq, nat_lt, subst, sym, take, true}
use Rattle.std.specs.List.{ends_with, starts_with}
use Rattle.std.proofs.lemmas.Bool.{cond-false, cond-true}
use Rattle.std.proofs.lemmas.Cmp.{nat_list_eq_equiv}
use lib.Pointwise.{pointwise}
use Rattle.lk_text.specs.Fates.{said_before, said_in, said_of}
use Rattle.lk_text.proofs.course.said_of.Goals as goal

within : (line text front thread ended : List ℕ) → length line ≤ 96 → thread ≡ codes "# thread "
    → ended ≡ codes " ended"
    → pointwise nat_eq (take (length thread) line) thread ≡ true → text ≡ drop (length thread) line
    → pointwise nat_eq (drop (length text - length ended) text) ended ≡ true
    → front ≡ take (length text - length ended) text → said_before front ≡ said_of line
within line text front thread ended few is_thread is_ended starts text_is ends front_is =
    let begins : starts_with nat_eq line (codes "# thread ") ≡ true =
    nat_list_eq_equiv.symm (codes "# thread ") (take 9 line)
    ∙ subst (λ (l : List ℕ). pointwise nat_eq (take (length l) line) l ≡ true) is_thread starts in
    let rest : text ≡ drop 9 line =
    subst (λ (l : List ℕ). text ≡ drop (length l) line) is_thread text_is in
    let closes : ends_with nat_eq text (codes " ended") ≡ true =
    nat_list_eq_equiv.symm (codes " ended") (drop (length text - 6) text)
    ∙ subst (λ (l : List ℕ). pointwise nat_eq (drop (length text - length l) text) l ≡ true)
    is_ended ends in
    let before : front ≡ take (length text - 6) text =
    subst (λ (l : List ℕ). front ≡ take (length text - length l) text) is_ended front_is in
    ap said_before before
    ∙ sym (cond-false (nat_lt 96 (length line)) _ _ (le-ltb 96 (length line) few)
    ∙ cond-true (starts_with nat_eq line (codes "# thread ")) _ _ begins
    ∙ ap said_in (sym rest)
    ∙ cond-true (ends_with nat_eq text (codes " ended")) _ _ closes)

pub returns : goal.returns
returns c =
    c.said_before.ensures
    ∙ within c.args.line.now c.in_ok-text.text.now c.in_ok-strip_suffix.field-0.now _ _
    c.if-line-gt-MOST_OF_A_COMMENT.false c.as_slice.ensures c.as_slice-2.ensures
    c.in_ok-text.ensures.cases.0 c.in_ok-text.ensures.cases.1
    c.in_ok-strip_suffix.ensures.cases.0 c.in_ok-strip_suffix.ensures.cases.1
