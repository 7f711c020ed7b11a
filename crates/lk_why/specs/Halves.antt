-- Definitions. Steps in two halves: a read-modify-write that becomes a load and a store, and a
-- write that comes after the step that follows it. Between the halves the thread is in the phase of
-- the step, and keeps the value that was loaded.
use Rattle.std.specs.Prelude.{Bool, ℕ, ◌==◌, List, None, Option, Some, if◌then◌else◌, set}
use Rattle.std.specs.Prelude.{false, not, slice_index, true}
use Rattle.lk_words.specs.declared.operation.Operation.{Operation}
use Rattle.lk_words.specs.declared.operation.Operation.TheVariants.{CompareAndSwap, FetchAndAdd}
use Rattle.lk_words.specs.declared.operation.Operation.TheVariants.{Swap, Write}
use Rattle.lk_locks.specs.Change.{Change, to}
use Rattle.lk_locks.specs.Locks.{operation_of, step_of}
use Rattle.lk_why.specs.Types.{Acted, Entry, LockKind, Phase}
use Rattle.lk_why.specs.Altered.{word_or_0}

-- the value that a read-modify-write loads
abbrev pub loaded : List ℕ → Option Operation → Option ℕ
loaded ws (Some (Swap w v)) = Some (slice_index ws w)
loaded ws (Some (CompareAndSwap w old new)) = Some (slice_index ws w)
loaded ws (Some (FetchAndAdd w d)) = Some (slice_index ws w)
loaded ws operation = None

-- whether a read-modify-write that loaded this value stores one
abbrev pub stores : ℕ → Option Operation → Bool
stores value (Some (CompareAndSwap w old new)) = value == old
stores value operation = true

-- the store of a read-modify-write that loaded this value
abbrev pub storing : ℕ → LockKind → ℕ → List ℕ → ℕ → Phase → Change
storing value kind bits ws t p =
    let operation : Option Operation = operation_of kind bits t p in
    let w : ℕ = word_or_0 operation in
    let made : Change = step_of kind bits (set ws w value) t p in
    to (if stores value operation then set ws w (slice_index made.words w) else ws)
    made.phase made.outcome made.entries

-- the phase after a step; that of a write depends on no word
abbrev pub following : LockKind → ℕ → List ℕ → ℕ → Phase → Phase
following kind bits ws t p = (step_of kind bits ws t p).phase

-- the value that the step after a write loads, if it may come first: the step is a write too, which
-- loads nothing, or a read-modify-write
abbrev pub overtaking : List ℕ → Option Operation → Option Operation → Option ℕ
overtaking ws (Some (Write w v)) (Some (Write w' v')) = Some 0
overtaking ws (Some (Write w v)) next = loaded ws next
overtaking ws operation next = None

-- the acts among entries, and the others
abbrev pub is_act : Entry → Bool
is_act (Acted t op) = true
is_act e = false

abbrev pub is_no_act : Entry → Bool
is_no_act e = not (is_act e)

-- a write, after the step that follows it has loaded this value: that step's phase and outcome
abbrev pub overtaken : ℕ → LockKind → ℕ → List ℕ → ℕ → Phase → Change
overtaken value kind bits ws t p =
    let next : Phase = following kind bits ws t p in
    let w : ℕ = word_or_0 (operation_of kind bits t next) in
    let made : Change = step_of kind bits (set ws w value) t next in
    to (step_of kind bits ws t p).words made.phase made.outcome made.entries
