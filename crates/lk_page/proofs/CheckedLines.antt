-- One line of a trace, and the check of the text.
use Rattle.std.proofs.Common.{◌≡◌, ◌≢◌, ℕ, List, [], ◌∷◌, length, Option, ◌==◌, true}
use Rattle.std.proofs.Common.{refl, arith}
use Rattle.std.proofs.lemmas.Bool.{eqb-true, ne_eqb}
use Rattle.lk_lines.specs.Lines.{lines_of}
use Rattle.lk_trace.specs.Checks.{Checked}
use Rattle.lk_trace.specs.Traces.{event_of, after_text_line}
use Rattle.lk_page.specs.Checking.{Checking, answer_by, checked_line, checked_lines}
use Rattle.lk_page.specs.Checking.{end_of, one_more, steps_by}
use Rattle.lk_page.specs.declared.check.LtAnswer.{LtAnswer}
use Rattle.lk_page.specs.declared.check.LtStep.{LtStep}

-- a line without a fault, and one with one
pub goes_on : (c : Checking) (lines : List (List ℕ)) (line : List ℕ) (others : List (List ℕ))
    (fault : ℕ)
    → lines ≡ line ∷ others → fault ≡ (checked_line c line).answer.fault → fault ≡ 0
    → checked_lines (checked_line c line) others ≡ checked_lines c lines
goes_on c lines line others fault first is none = cc

pub ends_here : (c : Checking) (lines : List (List ℕ)) (line : List ℕ) (others : List (List ℕ))
    (fault : ℕ)
    → lines ≡ line ∷ others → fault ≡ (checked_line c line).answer.fault → fault ≢ 0
    → checked_line c line ≡ checked_lines c lines
ends_here c lines line others fault first is some = cc (ne_eqb fault 0 some)

-- no line is left
pub no_more : (c : Checking) (rest : List ℕ) → (length rest == 0) ≡ true
    → checked_lines c (lines_of rest) ≡ record c { answer = end_of c.reading c.answer }
unfolding lines_of
no_more c [] empty = refl
no_more c (b ∷ bs) empty = absurd (omega (arith, eqb-true _ _ empty))

-- a line that was counted before it was read leaves the check of it
pub is_checked : (c : Checking) (line : List ℕ) (number : ℕ) (reading : Option Checked)
    (answer : LtAnswer) (steps : List LtStep)
    → number ≡ one_more c.answer.line → reading ≡ after_text_line c.reading line
    → answer ≡ answer_by (event_of c.reading line) (record c.answer { line = number })
    → steps ≡ steps_by (after_text_line c.reading line) (event_of c.reading line)
    (record c.answer { line = number }) c.steps
    → record { reading = reading; answer = answer; steps = steps } ≡ checked_line c line
is_checked c line number reading answer steps n r a s = rw (s, a, r, n) refl
