-- Definitions: the bytes of a record and of a state. All numbers are little-endian.
use Rattle.std.specs.Prelude.{ℕ, zero, suc, ◌+◌, ◌-◌, ◌*◌, List, [], ◌∷◌, ◌++◌, length, replicate}
use Rattle.std.specs.Prelude.{Option, None, Some, if◌then◌else◌, nat_lt}
use Rattle.std.specs.Int.{to_le_bytes, w16, w32, w64}
use Rattle.std.specs.List.{flat_map}
use Rattle.std.specs.Option.{option_map_or}
use Rattle.lk_locks.specs.State.{State, phase_at}
use Rattle.lk_locks.specs.Locks.{step_due}
use Rattle.lk_locks.specs.Holding.{Holding, Free, HeldBy, ReadBy, WrittenBy, holding_of, waiting_of}
use Rattle.lk_locks.specs.declared.kinds.Refusal.{Refusal}
use Rattle.lk_lines.specs.Faults.{Fault}
use Rattle.lk_search.specs.Phases.{phase_code, phase_number}
use Rattle.lk_trace.specs.Codes.{move_number, outcome_number, refusal_number}
use Rattle.lk_page.specs.Codes.{bit, lock_code, is_unlinked, due_code, refusal_step, fault_codes}
use Rattle.lk_page.specs.Next.{allowed_calls}
use Rattle.lk_page.specs.Owned.{next_word, locked_word, record_name}
use Rattle.lk_page.specs.Told.{Moment}
use Rattle.lk_page.specs.declared.told.Touch.{Touch}
use Rattle.lk_page.specs.declared.told.Record.{Record}

-- the place of a touched word, as a page reads it; 65535 if none was
abbrev pub touched_word : Option Touch → ℕ
touched_word None = 65535
touched_word (Some t) = t.word

abbrev pub found_of : Option Touch → ℕ
found_of touch = option_map_or (λ t. t.found) touch 0

abbrev pub left_of : Option Touch → ℕ
left_of touch = option_map_or (λ t. t.left) touch 0

-- the standing of a thread after its move
abbrev pub thread_code : Record → ℕ
thread_code r =
    bit r.standing.holds + 2 * bit r.standing.is_queued + 4 * bit r.standing.writes
    + 8 * bit (is_unlinked r.phase) + 16 * bit r.waits

-- 56 bytes
unfoldable pub record_bytes : Record → List ℕ
record_bytes r =
    to_le_bytes w32 r.line
    ++ (r.thread ∷ move_number r.action ∷ r.kind ∷ outcome_number r.outcome
    ∷ phase_code r.phase ∷ thread_code r ∷ [])
    ++ to_le_bytes w16 (touched_word r.first) ++ to_le_bytes w16 (touched_word r.second)
    ++ (due_code r.due ∷ r.calls ∷ [])
    ++ to_le_bytes w64 (found_of r.first) ++ to_le_bytes w64 (left_of r.first)
    ++ to_le_bytes w64 (found_of r.second) ++ to_le_bytes w64 (left_of r.second)
    ++ to_le_bytes w64 (phase_number r.phase)

-- a list, and zeros after it
abbrev pub with_zeros : ℕ → List ℕ → List ℕ
with_zeros n xs = xs ++ replicate (n - length xs) 0

abbrev pub holding_code : Holding → ℕ
holding_code Free = 0
holding_code (HeldBy t) = 1
holding_code (ReadBy ts) = 2
holding_code (WrittenBy t) = 3

abbrev pub holder_list : Holding → List ℕ
holder_list Free = []
holder_list (HeldBy t) = t ∷ []
holder_list (ReadBy ts) = ts
holder_list (WrittenBy t) = t ∷ []

-- a thread's phase, the step and the calls that may come next, and its record: 16 bytes
abbrev pub own_bytes : State → ℕ → List ℕ
own_bytes s t =
    (phase_code (phase_at s.phases t) ∷ due_code (step_due s.kind (phase_at s.phases t))
    ∷ allowed_calls s t ∷ next_word s.kind s.bits t ∷ locked_word s.kind s.bits t
    ∷ record_name s.kind s.bits t ∷ 0 ∷ 0 ∷ [])
    ++ to_le_bytes w64 (phase_number (phase_at s.phases t))

abbrev pub thread_bytes : State → ℕ → List ℕ
thread_bytes s t = if nat_lt t (length s.phases) then own_bytes s t else replicate 16 0

-- of so many threads, from thread t on
abbrev pub threads_bytes : State → ℕ → ℕ → List ℕ
threads_bytes s t zero = []
threads_bytes s t (suc n) = thread_bytes s t ++ threads_bytes s (t + 1) n

-- the refusal, its line, and the due step that it names
abbrev pub stop_numbers : Option (ℕ × Refusal) → List ℕ
stop_numbers None = 0 ∷ 0 ∷ 0 ∷ 0 ∷ []
stop_numbers (Some r) = 1 ∷ refusal_number r.1 ∷ r.0 ∷ refusal_step r.1 ∷ []

-- of a lock in this state after `count` of `moves` moves: 2,304 bytes
unfoldable pub bytes_of_state : ℕ → ℕ → Option (ℕ × Refusal) → State → Holding → List ℕ → List ℕ
bytes_of_state moves count refused s held queue =
    flat_map (to_le_bytes w32) (stop_numbers refused
    ++ lock_code s.kind ∷ length s.phases ∷ s.bits ∷ count ∷ moves ∷ length s.words
    ∷ holding_code held ∷ length (holder_list held) ∷ length queue ∷ 0 ∷ 0 ∷ 0 ∷ [])
    ++ with_zeros 64 (holder_list held) ++ with_zeros 64 queue
    ++ threads_bytes s 0 64
    ++ flat_map (to_le_bytes w64) s.words ++ replicate (1088 - 8 * length s.words) 0

abbrev pub state_bytes : ℕ → ℕ → Option (ℕ × Refusal) → Moment → List ℕ
state_bytes moves count refused m =
    bytes_of_state moves count refused m.state (holding_of m.state.kind m.entries)
    (waiting_of m.state.kind m.entries)

unfoldable pub bytes_of_fault : ℕ → ℕ → List ℕ
bytes_of_fault code line = flat_map (to_le_bytes w32) (2 ∷ code ∷ line ∷ []) ++ replicate 2292 0

abbrev pub fault_bytes : Fault → List ℕ
fault_bytes f = bytes_of_fault (fault_codes f).0 (fault_codes f).1
