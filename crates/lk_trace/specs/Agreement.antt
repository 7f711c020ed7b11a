-- Definitions. A line of a trace agrees with the lock, part by part. The difference that is
-- answered is the first part that does not.
use Rattle.std.specs.Prelude.{◌≡◌, ℕ, ◌<◌, ◌==◌, Option, Some, None, Bool, not, IfSome}
use Rattle.lk_locks.specs.State.{State}
use Rattle.lk_locks.specs.Steps.{refusal_of, change_of}
use Rattle.lk_locks.specs.declared.kinds.Move.{Move}
use Rattle.lk_locks.specs.declared.kinds.Outcome.{Outcome}
use Rattle.lk_trace.specs.Checks.{Checked, word_of, value_of, value_after}
use Rattle.lk_trace.specs.declared.names.WordName.{WordName}
use Rattle.lk_trace.specs.declared.line.Seen.{Seen}
use Rattle.lk_trace.specs.declared.line.Seen.TheVariants.{Nothing, OnWord, WithOutcome}
use Rattle.lk_trace.specs.declared.line.TraceLine.{TraceLine}

-- the machine's step is on this word, and found and leaves in it what is given
pub record AgreesOnWord (s : State) (t : ℕ) (m : Move) (word : WordName) (found left : Option ℕ)
    (wrote : Option Bool) : Type 0 where
  pub on_word : word_of s t m ≡ Some word
  pub found_is : IfSome found (λ v. value_of s word ≡ v)
  pub left_is : IfSome left (λ v. value_after s t m word ≡ v)
  pub wrote_is : IfSome wrote (λ w. not (value_of s word == value_after s t m word) ≡ w)

-- the count of a section is above those before, and this comes of the step
pub record AgreesOnSection (c : Checked) (t : ℕ) (m : Move) (count : Option ℕ)
    (outcome : Option Outcome) : Type 0 where
  pub count_is : IfSome count (λ n. c.sections < n)
  pub outcome_is : IfSome outcome (λ o. (change_of c.lock.state t m).outcome ≡ o)

abbrev pub AgreesOn : Checked → ℕ → Move → Seen → Type 0
AgreesOn c t m Nothing = Unit {0}
AgreesOn c t m (OnWord word found left wrote) = AgreesOnWord c.lock.state t m word found left wrote
AgreesOn c t m (WithOutcome count outcome) = AgreesOnSection c t m count outcome

-- the machine accepts the move, and each part that the line gives is the machine's
pub record Agrees (c : Checked) (l : TraceLine) : Type 0 where
  pub accepted : refusal_of c.lock.state l.thread l.action ≡ None
  pub seen : AgreesOn c l.thread l.action l.seen

-- the count that a line gives
abbrev pub count_in : Seen → Option ℕ
count_in (WithOutcome count outcome) = count
count_in seen = None

-- a count that a line gives is the last one afterwards, and a line without one leaves it
pub record IsCounted (before : ℕ) (given : Option ℕ) (after : ℕ) : Type 0 where
  pub given_is : IfSome given (λ n. after ≡ n)
  pub stays : given ≡ None → after ≡ before
