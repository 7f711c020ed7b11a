-- Definitions. The check of a move with what its thread saw: where they differ first. What a move
-- does is said by the definitions of the locks alone.
use Rattle.std.specs.Prelude.{ℕ, ◌==◌, [], length, slice_index, Option, Some, None, option_map}
use Rattle.std.specs.Prelude.{Result, Ok, Err, Bool, false, not, nat_lt, if◌then◌else◌}
use Rattle.std.specs.Bool.{beq}
use Rattle.std.specs.Option.{option_and_then, option_or}
use denote.Enum.Bare.{sameb}
use Rattle.lk_locks.specs.contracts.kinds.Outcome.{the_type}
use Rattle.lk_locks.specs.State.{Shape, State, start_of, phase_at}
use Rattle.lk_words.specs.Operations.{effect_on}
use Rattle.lk_words.specs.declared.operation.Effect.{Effect}
use Rattle.lk_locks.specs.Locks as locks
use Rattle.lk_locks.specs.Locks.{operation_of, step_due}
use Rattle.lk_locks.specs.Steps.{refusal_of, change_of, next_state}
use Rattle.lk_locks.specs.Play.{Tracked, tracker_of, tracker_with}
use Rattle.lk_locks.specs.declared.kinds.LockKind.{LockKind}
use Rattle.lk_locks.specs.declared.kinds.Move.{Move}
use Rattle.lk_locks.specs.declared.kinds.Move.TheVariants.{Call, Step}
use Rattle.lk_locks.specs.declared.kinds.Outcome.{Outcome}
use Rattle.lk_locks.specs.declared.kinds.SectionEffect.{SectionEffect}
use Rattle.lk_locks.specs.declared.kinds.StepEffect.{StepEffect}
use Rattle.lk_locks.specs.declared.kinds.StepEffect.TheVariants.{Monitor, OneWord}
use Rattle.lk_trace.specs.Names.{name_at, place_of, same_word}
use Rattle.lk_trace.specs.declared.checker.Made.{Made}
use Rattle.lk_trace.specs.declared.names.WordName.{WordName}
use Rattle.lk_trace.specs.declared.line.Seen.{Seen}
use Rattle.lk_trace.specs.declared.line.Seen.TheVariants.{Nothing, OnWord, WithOutcome}
use Rattle.lk_trace.specs.declared.line.TraceLine.{TraceLine}
use Rattle.lk_trace.specs.declared.difference.Difference.{Difference}
use Rattle.lk_trace.specs.declared.difference.Difference.TheVariants as differs

-- a lock, and the greatest count of a section that was given so far
pub record Checked : Type 0 where
  pub lock : Tracked
  pub sections : ℕ

-- a lock of this shape, on which nothing was done
abbrev pub new_lock : Shape → Checked
new_lock shape = record { lock = tracker_of (start_of shape) []; sections = 0 }

-- a lock in this state, of whose sections this was the greatest count
abbrev pub on : State → ℕ → Checked
on s sections = record { lock = tracker_of s []; sections = sections }

abbrev pub is_word : Option WordName → WordName → Bool
is_word (Some word) given = same_word word given
is_word None given = false

abbrev pub other_word : Option WordName → WordName → Option Difference
other_word word given = if is_word word given then None else Some (differs.OtherWord word given)

-- how a part differs, if it is given and does not agree
abbrev pub part_other : {A : Type 0} → (A → Bool) → (A → Difference) → Option A → Option Difference
part_other agrees other None = None
part_other agrees other (Some given) = if agrees given then None else Some (other given)

-- the value of a word, and its value after a move
abbrev pub value_of : State → WordName → ℕ
value_of s word = slice_index s.words (place_of s.kind word)

abbrev pub value_after : State → ℕ → Move → WordName → ℕ
value_after s t m word = slice_index (change_of s t m).words (place_of s.kind word)

-- the effect of a move of thread t on its word, if it is one operation on one word
abbrev pub effect_of : State → ℕ → Move → Option Effect
effect_of s t (Call op) = None
effect_of s t (Step kind) =
    option_map (effect_on s.bits s.words) (operation_of s.kind s.bits t (phase_at s.phases t))

abbrev pub section_in : StepEffect → Option SectionEffect
section_in (Monitor section) = Some section
section_in (OneWord effect outcome) = None

-- the effect of a move of thread t on the words of its monitor, if it is a section
abbrev pub section_of : State → ℕ → Move → Option SectionEffect
section_of s t (Call op) = None
section_of s t (Step kind) =
    option_and_then section_in (locks.effect_of s.kind s.bits s.words t (phase_at s.phases t))

-- the name of the word that an effect is on
abbrev pub name_of : LockKind → Option Effect → Option WordName
name_of kind effect = option_and_then (λ e. name_at kind e.word) effect

abbrev pub word_of : State → ℕ → Move → Option WordName
word_of s t m = name_of s.kind (effect_of s t m)

-- the values of a word before and after
abbrev pub values_other : WordName → ℕ → ℕ → Option ℕ → Option ℕ → Option Bool → Option Difference
values_other word found left given_found given_left given_wrote =
    option_or (part_other (λ v. found == v) (differs.FoundOther word found) given_found)
    (option_or (part_other (λ v. left == v) (differs.LeftOther word left) given_left)
    (part_other (beq (not (found == left))) (λ w. differs.WroteOther (not (found == left)))
    given_wrote))

abbrev pub effect_other : LockKind → Option Effect → WordName → Option ℕ → Option ℕ → Option Bool
    → Option Difference
effect_other kind None word found left wrote = Some (differs.OtherWord None word)
effect_other kind (Some effect) word found left wrote =
    option_or (other_word (name_at kind effect.word) word)
    (values_other word effect.found effect.left found left wrote)

abbrev pub section_other : ℕ → Outcome → Option ℕ → Option Outcome → Option Difference
section_other last outcome count given =
    option_or (part_other (nat_lt last) (differs.CountNotAbove last) count)
    (part_other (sameb the_type outcome) (differs.OtherOutcome outcome) given)

-- the difference of an accepted move
abbrev pub seen_other : Checked → ℕ → Move → Seen → Option Difference
seen_other c t m Nothing = None
seen_other c t m (OnWord word found left wrote) =
    effect_other c.lock.state.kind (effect_of c.lock.state t m) word found left wrote
seen_other c t m (WithOutcome count outcome) =
    section_other c.sections (change_of c.lock.state t m).outcome count outcome

-- where a line of a trace differs from the machine first
abbrev pub difference_of : Checked → TraceLine → Option Difference
difference_of c l =
    option_or (option_map differs.Refused (refusal_of c.lock.state l.thread l.action))
    (seen_other c l.thread l.action l.seen)

abbrev pub count_given : ℕ → Seen → ℕ
count_given last (WithOutcome (Some count) outcome) = count
count_given last seen = last

-- the lock after a move that it accepts
abbrev pub lock_after : Tracked → ℕ → Move → Tracked
lock_after lock t m =
    tracker_with lock (next_state lock.state t m) (change_of lock.state t m).entries

-- a line without a difference is made
abbrev pub lock_with : Checked → TraceLine → Checked
lock_with c l = record {
  lock = lock_after c.lock l.thread l.action;
  sections = count_given c.sections l.seen;
}

-- what comes next if nothing differs, and else what is now
abbrev pub unless_other : {A : Type 0} → Option Difference → A → A → A
unless_other None next now = next
unless_other (Some difference) next now = now

abbrev pub after_line : Checked → TraceLine → Checked
after_line c l = unless_other (difference_of c l) (lock_with c l) c

-- a call of thread t, or the step that it makes next, as it would be made
abbrev pub made_of : State → ℕ → Move → Made
made_of s t m = record {
  from = phase_at s.phases t;
  outcome = (change_of s t m).outcome;
  effect = effect_of s t m;
  section = section_of s t m;
}

-- the step that thread t makes next, and as it would be made. There is none if there is no such
-- thread, or if it has no pending call
abbrev pub next_made : State → ℕ → Option (Move × Made)
next_made s t =
    if nat_lt t (length s.phases)
    then option_map (λ kind. (Step kind, made_of s t (Step kind)))
    (step_due s.kind (phase_at s.phases t))
    else None

abbrev pub answer_unless : Option Difference → Made → Result Made Difference
answer_unless None made = Ok made
answer_unless (Some difference) made = Err difference

-- a line is accepted exactly if the machine accepts its move and each part that it gives is the
-- machine's
abbrev pub answer_to : Checked → TraceLine → Result Made Difference
answer_to c l = answer_unless (difference_of c l) (made_of c.lock.state l.thread l.action)
