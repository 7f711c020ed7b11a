-- The machine on which a step of a changed lock is made.
use Rattle.std.proofs.Common.{◌≡◌, ◌≢◌, ℕ, ◌<◌, ◌≤◌, ◌∙◌, List, [], None, Option, Some, arith}
use Rattle.std.proofs.Common.{inl}
use Rattle.std.proofs.Common.{ap, inr, length, refl, replicate, set, sym, take}
use Rattle.std.proofs.lemmas.Bool.Decides.{eqb_tells}
use Rattle.std.proofs.lemmas.List.{get_or-set_other, get_or-set_same, get_or-take}
use Rattle.std.proofs.lemmas.List.{length-replicate}
use Rattle.std.proofs.lemmas.List.{length-set, length-take-le}
use Rattle.lk_locks.specs.Change.{Change, to}
use Rattle.lk_locks.specs.Locks.{step_due, step_of}
use Rattle.lk_locks.specs.State.{Shape, State, phase_at, put_back, start_of}
use Rattle.lk_locks.specs.Steps.{after_move, change_of, next_state, refusal_of}
use Rattle.lk_locks.specs.invariants.Locks.{IsPhaseOf}
use Rattle.lk_locks.specs.invariants.WellFormed.{WellFormed}
use Rattle.lk_locks.proofs.EachLock.{proof_of}
use Rattle.lk_locks.proofs.Machines.{accepted_next}
use Rattle.lk_locks.proofs.Threads.{all_idle, at_same}
use Rattle.lk_why.specs.Altered.{waiting}
use Rattle.lk_why.specs.Makes.{Leaves}
use Rattle.lk_why.specs.Steps.{made, unchanged}
use Rattle.lk_why.specs.declared.made.Made.{Made}
use Rattle.lk_why.specs.Types.{AwaitGrant, AwaitLink, AwaitTurn, CasTail, ClearNext, Grant, Idle}
use Rattle.lk_why.specs.Types.{LinkTo, LockKind, Mcs, PassOn, Phase, ReadNext, ReadServing}
use Rattle.lk_why.specs.Types.{Reading}
use Rattle.lk_why.specs.Types.{RwFifo, RwSimple, SetLocked, SwapTail, TakeTicket, Ticket, Waits}
use Rattle.lk_why.specs.Types.{Moved, Step, StepKind, Writing}
use Rattle.lk_why.specs.invariants.Ready.{AreWords, IsReady}
use Rattle.lk_why.proofs.Ready.{words_few}
use Rattle.lk_why.proofs.Unchanged.{due_accepted}

-- thread t is in phase p, and the others are idle
abbrev pub alone : ℕ → ℕ → Phase → List Phase
alone n t p = take n (set (replicate 4 Idle) t p)

pub alone_count : (n t : ℕ) (p : Phase) → n ≤ 4 → length (alone n t p) ≡ n
alone_count n t p few =
    length-take-le n (set (replicate 4 Idle) t p)
    (omega (arith, few, length-set (replicate 4 Idle) t p, length-replicate 4 Idle))

pub alone_there : (n t : ℕ) (p : Phase) → n ≤ 4 → t < n → phase_at (alone n t p) t ≡ p
alone_there n t p few h =
    get_or-take n (set (replicate 4 Idle) t p) t Idle h
    ∙ get_or-set_same (replicate 4 Idle) t p Idle (omega (arith, h, few, length-replicate 4 Idle))

alone_elsewhere : (n t u : ℕ) (p : Phase) → u < n → u ≢ t → phase_at (alone n t p) u ≡ Idle
alone_elsewhere n t u p h other =
    get_or-take n (set (replicate 4 Idle) t p) u Idle h
    ∙ (get_or-set_other (replicate 4 Idle) t u p Idle other ∙ all_idle 4 u)

alone_fits : (s : Shape) (t u : ℕ) (p : Phase) → s.threads ≤ 4 → t < s.threads → u < s.threads
    → IsReady s p → IsPhaseOf s.kind s.threads (phase_at (alone s.threads t p) u)
alone_fits s t u p few h k ready = elim (eqb_tells u t) [
  | inl e ↦ rw (e.1, alone_there s.threads t p few h) ready.fits
  | inr e ↦
      rw (alone_elsewhere s.threads t u p k e.1) ((proof_of s.kind).idle_fits s.threads)
]

-- so the machine may have these words and phases
pub alone_well : (s : Shape) (ws : List ℕ) (t : ℕ) (p : Phase) → AreWords s ws → IsReady s p
    → t < s.threads → WellFormed (put_back (start_of s) ws (alone s.threads t p))
alone_well s ws t p words ready h =
    let count = alone_count s.threads t p words.few in
    record {
      enough = rw count (omega (arith, words.size));
      phases_fit = rw count (λ u k. alone_fits s t u p words.few h k ready);
      links_fit = rw count words.links;
    }

-- nothing comes of a step that is not due
pub no_step : (kind : LockKind) (bits : ℕ) (ws : List ℕ) (t : ℕ) (p : Phase)
    → step_due kind p ≡ None
    → step_of kind bits ws t p ≡ to ws p Waits []
no_step Ticket bits ws t TakeTicket due = absurd (cc)
no_step Ticket bits ws t (AwaitTurn k) due = absurd (cc)
no_step Ticket bits ws t (ReadServing k) due = absurd (cc)
no_step Ticket bits ws t (PassOn k) due = absurd (cc)
no_step Ticket bits ws t p due = refl
no_step Mcs bits ws t ClearNext due = absurd (cc)
no_step Mcs bits ws t SwapTail due = absurd (cc)
no_step Mcs bits ws t (SetLocked j) due = absurd (cc)
no_step Mcs bits ws t (LinkTo j) due = absurd (cc)
no_step Mcs bits ws t AwaitGrant due = absurd (cc)
no_step Mcs bits ws t ReadNext due = absurd (cc)
no_step Mcs bits ws t CasTail due = absurd (cc)
no_step Mcs bits ws t AwaitLink due = absurd (cc)
no_step Mcs bits ws t (Grant j) due = absurd (cc)
no_step Mcs bits ws t p due = refl
no_step RwSimple bits ws t Idle due = refl
no_step RwSimple bits ws t Reading due = refl
no_step RwSimple bits ws t Writing due = refl
no_step RwSimple bits ws t p due = absurd (cc)
no_step RwFifo bits ws t Idle due = refl
no_step RwFifo bits ws t Reading due = refl
no_step RwFifo bits ws t Writing due = refl
no_step RwFifo bits ws t p due = absurd (cc)

-- the code leaves of a step that waits what the step leaves
pub waits_leaves : (ws : List ℕ) (p : Phase) (change : Change) (m : Made)
    → change ≡ to ws p Waits [] → m.words.items ≡ ws → m.phase ≡ p → m.half ≡ None
    → m.outcome ≡ Waits → m.entries.items ≡ [] → Leaves (made change) m
waits_leaves ws p change m same words phase half outcome entries =
    rw same (record {
      words = words;
      phase = phase;
      half = half;
      outcome = outcome;
      entries = entries;
    })

-- a step that would move on waits
pub waited : (kind : LockKind) (bits : ℕ) (ws : List ℕ) (t : ℕ) (p : Phase)
    → (step_of kind bits ws t p).outcome ≡ Moved → waiting kind bits ws t p ≡ to ws p Waits []
waited kind bits ws t p moved = rw moved refl

-- a step on the machine is the step of its thread
pub played : (s : Shape) (ws : List ℕ) (t : ℕ) (p : Phase) (k : StepKind) (board after : State)
    (m : Made) → board ≡ put_back (start_of s) ws (alone s.threads t p) → s.threads ≤ 4
    → t < s.threads → refusal_of board t (Step k) ≡ None → after ≡ after_move board t (Step k)
    → m.words.items ≡ after.words → m.phase ≡ phase_at after.phases t → m.half ≡ None
    → m.outcome ≡ (change_of board t (Step k)).outcome
    → m.entries.items ≡ (change_of board t (Step k)).entries
    → Leaves (unchanged s.kind s.bits ws t p) m
played s ws t p k board after m same few h accepted is_after words phase half outcome entries =
    let there : phase_at (alone s.threads t p) t ≡ p = alone_there s.threads t p few h in
    let count : length (alone s.threads t p) ≡ s.threads = alone_count s.threads t p few in
    let next : after ≡ next_state board t (Step k) =
    accepted_next after board t (Step k) accepted is_after in
    record {
      words = words ∙ (ap (λ (x : State). x.words) next ∙ rw (same, there) refl);
      phase = phase ∙ (ap (λ (x : State). phase_at x.phases t) next
          ∙ rw (same, there) (at_same (alone s.threads t p) t _ (omega (arith, h, count))));
      half = half;
      outcome = outcome ∙ rw (same, there) refl;
      entries = entries ∙ rw (same, there) refl;
    }

-- the step that is due on the machine is that of the phase
pub board_due : (s : Shape) (ws : List ℕ) (t : ℕ) (p : Phase) (board : State)
    (due : Option StepKind) → board ≡ put_back (start_of s) ws (alone s.threads t p)
    → s.threads ≤ 4 → t < s.threads → due ≡ step_due board.kind (phase_at board.phases t)
    → due ≡ step_due s.kind p
board_due s ws t p board due same few h is =
    is
    ∙ (ap (λ (x : State). step_due x.kind (phase_at x.phases t)) same
    ∙ ap (step_due s.kind) (alone_there s.threads t p few h))

-- and the machine accepts it
pub board_accepts : (s : Shape) (ws : List ℕ) (t : ℕ) (p : Phase) (board : State) (k : StepKind)
    → board ≡ put_back (start_of s) ws (alone s.threads t p) → s.threads ≤ 4 → t < s.threads
    → step_due board.kind (phase_at board.phases t) ≡ Some k → refusal_of board t (Step k) ≡ None
board_accepts s ws t p board k same few h due =
    let count : length board.phases ≡ s.threads =
    ap (λ (x : State). length x.phases) same ∙ alone_count s.threads t p few in
    due_accepted board t k (omega (arith, h, count)) due

-- a step on the machine leaves as many words
pub played_few : (s : Shape) (ws : List ℕ) (t : ℕ) (p : Phase) (k : StepKind)
    (board after : State) → board ≡ put_back (start_of s) ws (alone s.threads t p)
    → refusal_of board t (Step k) ≡ None → after ≡ after_move board t (Step k) → AreWords s ws
    → length after.words ≤ 9
played_few s ws t p k board after same accepted is_after words =
    let next = accepted_next after board t (Step k) accepted is_after in
    let size : length after.words ≡ length ws =
    ap (λ (x : State). length x.words) next
    ∙ (ap (λ (x : State). length (next_state x t (Step k)).words) same
    ∙ (proof_of s.kind).keeps_length s.bits t ws (phase_at (alone s.threads t p) t)) in
    omega (arith, size, words_few s ws words)
