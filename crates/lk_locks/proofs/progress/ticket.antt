-- The ticket lock: the thread whose ticket is served can go on.
use Rattle.std.proofs.Common.{IsTrue, None, Some, List, [], ◌∷◌, arith, refl, slice_index, true}
use Rattle.std.proofs.Common.{ℕ, ◌≡◌, ◌≢◌}
use Rattle.std.proofs.lemmas.Bool.{eq-eqb, true_from_ne_false}
use Rattle.lk_locks.specs.{Progress.CanFinish, Sequential.has, State.phase_at}
use Rattle.lk_locks.specs.invariants.ticket.{IsQueue, is_phase, ticket_of}
use Rattle.lk_locks.specs.Types.{Ticket, Phase, AwaitTurn, Idle, PassOn, ReadServing, TakeTicket}
use Rattle.lk_locks.specs.Types.{TicketInside, Release, Add, Read, Write}
use Rattle.lk_locks.proofs.progress.Going.{SomeoneCan, by_call, by_step, in_lock, state_of}

-- the thread whose ticket is served
served : (bits : ℕ) (ws : List ℕ) (ps : List Phase) (t : ℕ) (p : Phase) → phase_at ps t ≡ p
    → ticket_of p ≡ Some (slice_index ws 1) → CanFinish (state_of Ticket bits ws ps)
served bits ws ps t (AwaitTurn ticket) was own =
    by_step t was (λ same. cc) Read refl (rw (eq-eqb (slice_index ws 1) ticket (cc)) refl)
served bits ws ps t (TicketInside ticket) was own = by_call t was (λ same. cc) Release refl refl
served bits ws ps t (ReadServing ticket) was own = by_step t was (λ same. cc) Read refl refl
served bits ws ps t (PassOn ticket) was own = by_step t was (λ same. cc) Write refl refl
served bits ws ps t p was own = cc

-- while somebody is in the queue, its head
queued : (bits : ℕ) (ws : List ℕ) (ps : List Phase) (q : List ℕ) (t : ℕ) → IsQueue bits ws ps q
    → has q t ≡ true → CanFinish (state_of Ticket bits ws ps)
queued bits ws ps [] t agreed member = cc
queued bits ws ps (head ∷ rest) t agreed member =
    served bits ws ps head (phase_at ps head) refl agreed.tickets.0

-- each thread in a call, or inside, has a ticket or is about to take it
has_ticket : (p : Phase) → IsTrue (is_phase p) → p ≢ Idle → p ≢ TakeTicket → ticket_of p ≢ None
has_ticket p fits busy takes_not none = grind arith

pub someone : SomeoneCan Ticket
someone bits ws ps q t TakeTicket well agreed was busy = by_step t was busy Add refl refl
someone bits ws ps q t p well agreed was busy =
    queued bits ws ps q.queue t agreed
    (true_from_ne_false (has q.queue t) (λ absent.
    has_ticket p (rw was at (well.phases_fit t (in_lock ps t (rw was busy)))) busy (λ same. cc)
    (rw was at (agreed.others t absent))))
