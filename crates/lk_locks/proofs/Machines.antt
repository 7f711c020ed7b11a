-- A machine after a move, by its fields; and a new lock, with nobody and no entry.
use Rattle.std.proofs.Common.{◌≡◌, ℕ, ◌<◌, ◌≤◌, List, length, set, take, replicate, ◌^◌, inl, inr}
use Rattle.std.proofs.Common.{None, refl, sym, ◌∙◌, arith, slice_index, [], ap}
use Rattle.std.proofs.lemmas.List.{length-set, take-replicate, length-replicate, get_or_past}
use Rattle.std.proofs.lemmas.List.{get_or-replicate}
use Rattle.std.proofs.{lemmas.Bool.cases_lt, Math.Seq.take-set-lt}
use Rattle.lk_locks.specs.declared.entries.Added.{Added}
use Rattle.lk_locks.specs.{Change.Makes, Locks.word_count, Sequential.nobody, invariants.Kept.Kept}
use Rattle.lk_locks.specs.State.{State, phase_at, start, start_of}
use Rattle.lk_locks.specs.Steps.{move_change, change_of, next_state, refusal_of, after_move}
use Rattle.lk_locks.specs.invariants.WellFormed.{IsMachine, WellFormed}
use Rattle.lk_locks.proofs.EachLock.{proof_of}
use Rattle.lk_locks.proofs.Moves.{well_kept, accepted_of}
use Rattle.lk_locks.proofs.Threads.{all_idle}
use Rattle.lk_locks.specs.Types.{LockKind, Phase, Idle, Move, Outcome}
use Rattle.lk_locks.specs.invariants.Locks.{owed_of}

-- a machine's state by its fields: of 64 phases, those of its threads
abbrev state_of : LockKind → ℕ → ℕ → List ℕ → List Phase → State
state_of kind bits n ws ps = record { kind = kind; bits = bits; words = ws; phases = take n ps }

-- past the end of clear words a read finds 0 too
pub all_clear : (ws : List ℕ) → ((i : ℕ) → i < length ws → slice_index ws i ≡ 0) → (i : ℕ)
    → slice_index ws i ≡ 0
all_clear ws clear i =
    elim (cases_lt i (length ws)) [
      | inl within ↦ clear i within
      | inr past ↦ get_or_past ws i 0 past
    ]

-- a new machine with clear words is well formed
pub well_new : (kind : LockKind) (bits n : ℕ) (ws : List ℕ) → word_count kind n ≤ length ws
    → ((i : ℕ) → i < length ws → slice_index ws i ≡ 0) → WellFormed (start kind bits ws n)
well_new kind bits n ws enough clear = record {
  enough = rw (length-replicate n Idle) enough;
  phases_fit = λ t in_lock. rw (all_idle n t) ((proof_of kind).idle_fits _);
  links_fit = (proof_of kind).clear_links _ ws (all_clear ws clear);
}

-- the words and the phase that a move leaves are those of the state after it, and of a machine
pub next_machine : (kind : LockKind) (bits n : ℕ) (ws words : List ℕ) (ps : List Phase) (t : ℕ)
    (p : Phase) (answer : Phase × Outcome × Added) (m : Move) (now : State)
    → state_of kind bits n ws ps ≡ now → refusal_of now t m ≡ None → p ≡ phase_at now.phases t
    → Makes words t answer (move_change kind bits ws t p m)
    → IsMachine n (state_of kind bits n ws ps)
    → IsMachine n (state_of kind bits n words (set ps t answer.0))
    × (state_of kind bits n words (set ps t answer.0) ≡ after_move now t m)
next_machine kind bits n ws words ps t p answer m now is_now no_refusal was made machine =
    let s : State = state_of kind bits n ws ps in
    let not_refused : refusal_of s t m ≡ None = rw (← is_now) at no_refusal in
    let is : p ≡ phase_at (take n ps) t = rw (← is_now) at was in
    let change : Makes words t answer (change_of s t m) = rw is at made in
    let accepted = accepted_of s t m not_refused in
    let in_lock : t < n = omega (arith, accepted.thread, machine.count) in
    let same : state_of kind bits n words (set ps t answer.0) ≡ next_state s t m =
    rw (change.words_are, change.phase_is, take-set-lt n ps t (change_of s t m).phase in_lock) refl
    in
    let next : IsMachine n (next_state s t m) = record {
      few = machine.few;
      narrow = machine.narrow;
      count = length-set s.phases t (change_of s t m).phase ∙ machine.count;
      well = well_kept s t m machine.well accepted;
    } in
    rw (← is_now) (rw same next, same ∙ sym (rw not_refused refl))

-- a machine whose phases are all idle is a new lock
pub state_start : (kind : LockKind) (bits n : ℕ) (ws : List ℕ) → n ≤ 64
    → state_of kind bits n ws (replicate 64 Idle) ≡ start kind bits ws n
state_start kind bits n ws few = rw (take-replicate n 64 Idle few) refl

-- so the fields of a new lock are a machine
pub new_machine : (kind : LockKind) (bits n : ℕ) (ws : List ℕ) → n ≤ 64 → n < 2 ^ bits
    → word_count kind n ≤ length ws → ((i : ℕ) → i < length ws → slice_index ws i ≡ 0)
    → IsMachine n (state_of kind bits n ws (replicate 64 Idle))
new_machine kind bits n ws few narrow enough clear =
    rw (state_start kind bits n ws few) (record {
      few = few;
      narrow = narrow;
      count = length-replicate n Idle;
      well = well_new kind bits n ws enough clear;
    })

-- an accepted move leads to the next state
pub accepted_next : (s now : State) (t : ℕ) (m : Move) → refusal_of now t m ≡ None
    → s ≡ after_move now t m → s ≡ next_state now t m
accepted_next s now t m no_refusal after = rw no_refusal at after

-- a new lock has the empty history
pub kept_start : (kind : LockKind) (bits : ℕ) (ws : List ℕ) (n : ℕ) → n ≤ 64 → n < 2 ^ bits
    → word_count kind n ≤ length ws → ((i : ℕ) → i < length ws → slice_index ws i ≡ 0)
    → Kept (start kind bits ws n) (nobody kind) []
kept_start kind bits ws n h b w z = record {
  well = well_new kind bits n ws w z;
  few = rw (length-replicate n Idle) h;
  kind = refl;
  now = refl;
  allowed = tt;
  turns = λ t k. ([], ap (owed_of kind t) (all_idle n t) ∙ (proof_of kind).idle_rest t);
  no_others = tt;
  agree = (proof_of kind).starts bits ws n b (all_clear ws z);
}

-- so has a lock whose words are made for it
pub kept_new : (kind : LockKind) (bits n : ℕ) → n ≤ 64 → n < 2 ^ bits
    → Kept (start_of (record { kind = kind; threads = n; bits = bits })) (nobody kind) []
kept_new kind bits n few narrow =
    let count = word_count kind n in
    let size : length {A = ℕ} (replicate count 0) ≡ count = length-replicate count 0 in
    kept_start kind bits (replicate count 0) n few narrow (omega (arith, size))
    (λ i h. get_or-replicate count i 0 0 (omega (arith, h, size)))
