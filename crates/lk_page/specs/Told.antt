-- Definitions: the record of each move that is made, and the lock after the last. The definitions
-- of the locks and of the replay alone say what a move does, who holds and who waits.
use Rattle.std.specs.Prelude.{◌≡◌, ◌≢◌, ℕ, ◌<◌, List, [], ◌∷◌, ◌++◌, length, slice_index, Option}
use Rattle.std.specs.Prelude.{None, Some, option_map, IfSome, IsSomeAnd, Bool, false, ◌==◌}
use Rattle.std.specs.Option.{option_map_or}
use Rattle.lk_words.specs.Operations.{word_of}
use Rattle.lk_locks.specs.State.{State, phase_at, start_of}
use Rattle.lk_locks.specs.Locks.{operation_of, step_due}
use Rattle.lk_locks.specs.Steps.{refusal_of, change_of, next_state}
use Rattle.lk_locks.specs.Sequential.{has}
use Rattle.lk_locks.specs.Holding.{Holding, Free, HeldBy, ReadBy, WrittenBy, holding_of, waiting_of}
use Rattle.lk_locks.specs.declared.kinds.LockKind.{LockKind}
use Rattle.lk_locks.specs.declared.kinds.Move.{Move}
use Rattle.lk_locks.specs.declared.kinds.Move.TheVariants.{Call, Step}
use Rattle.lk_locks.specs.declared.kinds.Entry.{Entry}
use Rattle.lk_replay.specs.Schedule.{Plan}
use Rattle.lk_replay.specs.Replay.{made_by}
use Rattle.lk_replay.specs.declared.schedule.Line.{Line}
use Rattle.lk_search.specs.Sketches.{transition_of}
use Rattle.lk_page.specs.Next.{allowed_calls, waits_after}
use Rattle.lk_catalogue.specs.Kinds.{kind_of}
use Rattle.lk_catalogue.specs.declared.kinds.Observed.{Observed}
use Rattle.lk_page.specs.declared.told.Touch.{Touch}
use Rattle.lk_page.specs.declared.told.Standing.{Standing}
use Rattle.lk_page.specs.declared.told.Record.{Record}

-- a lock in a state, and its history
pub record Moment : Type 0 where
  pub state : State
  pub entries : List Entry

-- before the first move of a plan
abbrev pub beginning : Plan → Moment
beginning p = record { state = start_of p.shape; entries = [] }

-- after an accepted move
abbrev pub after_line : Moment → Line → Moment
after_line m l = record {
  state = next_state m.state l.thread l.action;
  entries = m.entries ++ (change_of m.state l.thread l.action).entries;
}

-- after these moves, up to the first refused one
abbrev pub after_lines : Moment → List Line → Moment
after_lines m [] = m
after_lines m (l ∷ ls) =
    option_map_or (λ _. m) (refusal_of m.state l.thread l.action) (after_lines (after_line m l) ls)

-- a word that was touched, with its value before and after
abbrev pub IsTouch : List ℕ → List ℕ → Option Touch → Type 0
IsTouch before after touch = IfSome touch (λ t. (t.word < length before)
    × (t.found ≡ slice_index before t.word) × (t.left ≡ slice_index after t.word))

abbrev pub IsWord : Option Touch → ℕ → Type 0
IsWord touch i = IsSomeAnd touch (λ t. t.word ≡ i)

-- the values before and after differ
abbrev pub IsChange : Option Touch → Type 0
IsChange touch = IsSomeAnd touch (λ t. t.found ≢ t.left)

-- The words that a move touched: all others stayed. They are two different words. The first of them
-- stayed only if none changed, and a second one changed.
pub record AreTouched (before after : List ℕ) (first second : Option Touch) : Type 0 where
  pub first_is : IsTouch before after first
  pub second_is : IsTouch before after second
  pub apart : (i : ℕ) → IsWord first i → IsWord second i → ⊥
  pub others : (i : ℕ) → i < length before → (IsWord first i → ⊥) → (IsWord second i → ⊥)
      → slice_index after i ≡ slice_index before i
  pub first_changed : (IsChange first → ⊥) → (i : ℕ) → i < length before
      → slice_index after i ≡ slice_index before i
  pub second_changed : second ≢ None → IsChange second

-- the word that a move of thread t is on, if it is one operation on one word
abbrev pub own_word : State → ℕ → Move → Option ℕ
own_word s t (Call op) = None
own_word s t (Step step) =
    option_map word_of (operation_of s.kind s.bits t (phase_at s.phases t))

-- A step on one of the words touches that word alone. A call, and a section, touches only what it
-- changed.
abbrev pub IsOwn : ℕ → Option ℕ → Option Touch → Option Touch → Type 0
IsOwn size (Some word) first second = word < size → (IsWord first word × (second ≡ None))
IsOwn size None first second = first ≢ None → IsChange first

abbrev pub holds : Holding → ℕ → Bool
holds Free t = false
holds (HeldBy u) t = t == u
holds (ReadBy us) t = has us t
holds (WrittenBy u) t = t == u

abbrev pub writes : Holding → ℕ → Bool
writes (WrittenBy u) t = t == u
writes h t = false

-- whether a thread holds a lock that is held so, and is in this queue
abbrev pub standing_of : Holding → List ℕ → ℕ → Standing
standing_of h queue t = record { holds = holds h t; is_queued = has queue t; writes = writes h t }

-- the number of a transition's kind; each transition of a lock has one
abbrev pub kind_number : LockKind → Observed → ℕ
kind_number kind x = option_map_or (λ place. place) (kind_of kind x) 255

-- the record of an accepted move
pub record IsRecord (m : Moment) (l : Line) (r : Record) : Type 0 where
  pub accepted : (made_by m.state l).accepted
      ≡ record { line = r.line; thread = r.thread; action = r.action; outcome = r.outcome }
  pub kind : r.kind ≡ kind_number m.state.kind (transition_of m.state l.thread l.action)
  pub phase : r.phase ≡ (change_of m.state l.thread l.action).phase
  pub due : r.due ≡ step_due m.state.kind (change_of m.state l.thread l.action).phase
  pub stands : r.standing
      ≡ (let n : Moment = after_line m l in
      standing_of (holding_of n.state.kind n.entries) (waiting_of n.state.kind n.entries) l.thread)
  pub calls : r.calls ≡ allowed_calls (after_line m l).state l.thread
  pub waiting : r.waits
      ≡ waits_after (after_line m l).state l.thread r.outcome r.standing.is_queued
  pub touched : AreTouched m.state.words (after_line m l).state.words r.first r.second
  pub own : IsOwn (length m.state.words) (own_word m.state l.thread l.action) r.first r.second
