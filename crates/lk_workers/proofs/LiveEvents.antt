-- The steps of the running lock are steps of the ticket machine.
use Rattle.std.proofs.Common.{◌≡◌, ℕ, zero, suc, ◌+◌, ◌%◌, ◌^◌, ◌<◌, ◌==◌, Bool, true, false, List}
use Rattle.std.proofs.Common.{[], ◌∷◌, length, get_or, if◌then◌else◌, set, sym, refl, ap}
use Rattle.std.proofs.Common.{subst, arith, Option, None, Some}
use mathlib.Core.Option.{some, some-ne-none}
use lib.ListN.{get_elem?}
use Rattle.std.proofs.lemmas.List.{set-get_or}
use Rattle.atomic_table.proofs.Lists.{set_here, set_else}
use Rattle.lk_locks.specs.Change.{Change}
use Rattle.lk_locks.specs.Locks.{step_of}
use Rattle.lk_locks.specs.declared.kinds.LockKind.TheVariants.{Ticket}
use Rattle.lk_locks.specs.declared.kinds.Op.{Op}
use Rattle.lk_locks.specs.declared.kinds.Op.TheVariants.{Acquire, Release}
use Rattle.lk_locks.specs.declared.kinds.Phase.{Phase}
use Rattle.lk_locks.specs.declared.kinds.Phase.TheVariants.{AwaitTurn, PassOn, ReadServing}
use Rattle.lk_locks.specs.declared.kinds.Phase.TheVariants.{TakeTicket}
use Rattle.lk_locks.specs.laws.{after, Found, Nothing}
use Rattle.lk_locks.proofs.OneOperation.{ticket_leaves}
use Rattle.lk_workers.specs.declared.live.LivePhase.{LivePhase}
use Rattle.lk_workers.specs.declared.live.LivePhase.TheVariants.{Idle, Waiting, Inside, Leaving}
use Rattle.lk_workers.specs.declared.live.rule.SeatState.{SeatState}
use Rattle.lk_workers.specs.Seats.{Table, serving_of, thread_phase_in, thread_phase}
use Rattle.lk_workers.specs.SeatSteps.{LiveStep, take_step, look_step, read_step, pass_step}
use Rattle.lk_workers.specs.SeatSteps.{seat_after, table_after}
use Rattle.lk_workers.specs.invariants.Running.{FitsPhase}
use Rattle.lk_workers.specs.LockState.{Happens, IsDue, IsEvent}
use Rattle.lk_workers.proofs.LockStates.{between}

there : {A : Type 0} (l : List A) (i : ℕ) (a : A) → get_elem? l i ≡ some a → i < length l
there [] i a e = absurd (some-ne-none a (sym e))
there (x ∷ xs) zero a e = omega arith
there (x ∷ xs) (suc i) a e = omega (arith, there xs i a e)

-- a step of one seat is one of the machine that makes the same change
happens : (live : LiveStep) (id : ℕ) (s : Table) (r : SeatState) (p : LivePhase) (call : Option Op)
    (due : Phase) (change : Change) → get_elem? s.views id ≡ some (r ∷ []) → r.phase ≡ p
    → IsDue (thread_phase_in p r.ticket) call due
    → thread_phase (live.next r (get_or s.words live.word 0)) ≡ change.phase
    → set s.words live.word (live.leaves r (get_or s.words live.word 0)) ≡ change.words
    → step_of Ticket 64 s.words id due ≡ change
    → Happens s (table_after live id s r) id r call change
happens live id s r p call due change at is calls phase words machine =
    let q : SeatState = seat_after live r (get_or s.words live.word 0) in
    record {
      seat = (q, set_here s.views id (q ∷ []) (there s.views id (r ∷ []) at), phase);
      words = words;
      other_seats = λ j n. set_else s.views id j (q ∷ []) n;
      machine = (
        due,
        subst (λ d. IsDue (thread_phase_in d r.ticket) call due) (sym is) calls,
        machine,
      );
    }

pub takes : IsEvent take_step Idle (Some Acquire) (λ i r found. after i TakeTicket (Found found))
takes all id s r h at is =
    happens take_step id s r Idle (Some Acquire) TakeTicket _ at is refl refl refl refl

-- a load stores nothing
load_keeps : (ws : List ℕ) → ws ≡ set ws 1 (get_or ws 1 0)
load_keeps ws = sym (set-get_or ws 1 0)

seen_phase : (i found t : ℕ) (ws : List ℕ) (b : Bool) → (found == t) ≡ b
    → thread_phase_in (if b then Inside else Waiting) t
    ≡ (after i (AwaitTurn t) (Found found) ws).phase
seen_phase i found t ws true e = rw e refl
seen_phase i found t ws false e = rw e refl

pub looks_at : IsEvent look_step Waiting None
    (λ i r found. after i (AwaitTurn r.ticket) (Found found))
looks_at all id s r h at is =
    let m : ℕ = get_or s.words 1 0 in
    let ws : List ℕ = set s.words 1 m in
    happens look_step id s r Waiting None (AwaitTurn r.ticket)
    (after id (AwaitTurn r.ticket) (Found m) ws) at is refl
    (seen_phase id m r.ticket ws (m == r.ticket) refl)
    (sym (ticket_leaves id (AwaitTurn r.ticket) (Found m) ws))
    (ap (λ v. after id (AwaitTurn r.ticket) (Found m) v) (load_keeps s.words))

pub reads : IsEvent read_step Inside (Some Release)
    (λ i r found. after i (ReadServing r.ticket) (Found found))
reads all id s r h at is =
    let f =
    subst (λ p. FitsPhase (serving_of s) p r.ticket r.taken) is (h.seats id (r ∷ []) at).0.0.0 in
    let m : ℕ = get_or s.words 1 0 in
    happens read_step id s r Inside (Some Release) (ReadServing r.ticket) _ at is refl
    (ap PassOn f.0) refl
    (ap (λ v. after id (ReadServing r.ticket) (Found m) v) (load_keeps s.words))

pub passes : IsEvent pass_step Leaving None (λ i r found. after i (PassOn r.ticket) Nothing)
passes all id s r h at is =
    let b = between all s h id 0 r (r ∷ [], at, refl) (λ e. grind arith) in
    let l = h.left in
    let small : r.ticket + 1 ≡ (r.ticket + 1) % 2 ^ 64 = omega arith in
    happens pass_step id s r Leaving None (PassOn r.ticket) _ at is refl refl refl
    (ap (λ n. after id (PassOn r.ticket) Nothing (set s.words 1 n)) (sym small))
