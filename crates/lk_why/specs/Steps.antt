-- Definitions. The step of a changed lock.
use Rattle.std.specs.Prelude.{ℕ, List, [], None, Option, Some}
use Rattle.lk_locks.specs.Change.{Change, acts}
use Rattle.lk_locks.specs.Locks.{operation_of, step_of}
use Rattle.lk_why.specs.Types.{Entry, Idle, Left, LockKind, Moved, Outcome, Phase, Release}
use Rattle.lk_why.specs.Altered.{finding, leaving_out, sight, waiting}
use Rattle.std.specs.List.{filter}
use Rattle.lk_why.specs.Halves.{following, is_act, is_no_act, loaded, overtaken, overtaking}
use Rattle.lk_why.specs.Halves.{storing}
use Rattle.lk_why.specs.Types.{Exchange, Find, How, LeaveOut, Return, Split, Wait}

-- the result of a step: the words, the phase of its thread, the value loaded if half of a step is
-- still to come, the outcome, and the entries that it adds to the history
pub record Stepped : Type 0 where
  pub words : List ℕ
  pub phase : Phase
  pub half : Option ℕ
  pub outcome : Outcome
  pub entries : List Entry

-- a whole step that makes this change, or the last half of one
abbrev pub made : Change → Stepped
made change = record {
  words = change.words;
  phase = change.phase;
  half = None;
  outcome = change.outcome;
  entries = change.entries;
}

abbrev pub unchanged : LockKind → ℕ → List ℕ → ℕ → Phase → Stepped
unchanged kind bits ws t p = made (step_of kind bits ws t p)

-- a release returns, and leaves the words
abbrev pub returned : List ℕ → ℕ → Stepped
returned ws t = record {
  words = ws;
  phase = Idle;
  half = None;
  outcome = Left;
  entries = acts t Release;
}

-- the first half of a step: the words that it leaves, the value that it loads, and its entries. A
-- step that loads nothing is not halved
abbrev pub first_half : Option ℕ → List ℕ → Phase → List Entry → Stepped → Stepped
first_half None ws p es whole = whole
first_half (Some value) ws p es whole =
    record { words = ws; phase = p; half = Some value; outcome = Moved; entries = es }

-- the acts of the step after a write, which come with it
abbrev pub early : LockKind → ℕ → List ℕ → ℕ → Phase → List Entry
early kind bits ws t next =
    filter is_act (step_of kind bits ws t next).entries

-- a write that comes late, with the entries of the step after it that are no acts
abbrev pub late : ℕ → LockKind → ℕ → List ℕ → ℕ → Phase → Stepped
late value kind bits ws t p =
    let next : Phase = following kind bits ws t p in
    let whole : Stepped = made (overtaken value kind bits ws t p) in
    record whole { entries = filter is_no_act whole.entries }

-- a step that is changed so
abbrev pub step_by : How → LockKind → ℕ → List ℕ → ℕ → Phase → Stepped
step_by (LeaveOut written) kind bits ws t p =
    made (leaving_out written kind bits ws t p)
step_by (Find found) kind bits ws t p =
    made (finding (sight found kind bits ws t p) kind bits ws t p)
step_by Return kind bits ws t p = returned ws t
step_by Wait kind bits ws t p = made (waiting kind bits ws t p)
step_by Split kind bits ws t p =
    first_half (loaded ws (operation_of kind bits t p)) ws p [] (unchanged kind bits ws t p)
step_by Exchange kind bits ws t p =
    let next : Phase = following kind bits ws t p in
    first_half
    (overtaking ws (operation_of kind bits t p) (operation_of kind bits t next))
    (step_of kind bits ws t next).words p (early kind bits ws t next) (unchanged kind bits ws t p)

-- the last half of a step, whose first half loaded this value
abbrev pub last_half : How → ℕ → LockKind → ℕ → List ℕ → ℕ → Phase → Stepped
last_half Split value kind bits ws t p = made (storing value kind bits ws t p)
last_half Exchange value kind bits ws t p = late value kind bits ws t p
last_half how value kind bits ws t p = unchanged kind bits ws t p

-- a step of thread t from phase p, of which half is still to come if a value is given
abbrev pub step_so : Option How → Option ℕ → LockKind → ℕ → List ℕ → ℕ → Phase → Stepped
step_so None half kind bits ws t p = unchanged kind bits ws t p
step_so (Some how) None kind bits ws t p = step_by how kind bits ws t p
step_so (Some how) (Some value) kind bits ws t p = last_half how value kind bits ws t p
