-- The ticket lock: while a thread waits with its ticket, the threads ahead of it enter, leave and
-- take a ticket after it, and the others take one.
use Rattle.std.proofs.Common.{◌≡◌, ◌≢◌, ℕ, ◌≤◌, Bool, true, false, slice_index, List, None, ap}
use Rattle.std.proofs.Common.{arith, inl, inr, length}
use Rattle.std.proofs.lemmas.Bool.{true_from_ne_false}
use Rattle.std.proofs.lemmas.Bool.Decides.{eqb_tells}
use Rattle.lk_locks.specs.{Locks.family_of, Starvation.IsInQueue, Starvation.IsStarvationFree}
use Rattle.lk_locks.specs.{State.phase_at}
use Rattle.lk_locks.specs.Sequential.{has}
use Rattle.lk_locks.specs.invariants.ticket.{IsQueue, is_phase, ticket_of}
use Rattle.lk_locks.proofs.starvation.Ahead.{ahead_self, is_ahead}
use Rattle.lk_locks.proofs.starvation.Waiting.{starvation_free}
use Rattle.lk_locks.proofs.starvation.Totals.{total_but_one}
use Rattle.lk_locks.proofs.Requests.{allows_acquire, allows_release}
use Rattle.lk_locks.proofs.invariants.TicketQueue.{inside_is_head, no_member, served_is_head}
use Rattle.lk_locks.proofs.starvation.Lowering.{AreFew, Left, Lowers, anywhere, head_leaves}
use Rattle.lk_locks.proofs.starvation.Lowering.{head_moves, joins, not_after, not_before, outside}
use Rattle.lk_locks.specs.Types.{Ticket, Call, Step, Acquire, Release, AwaitTurn, Idle, PassOn}
use Rattle.lk_locks.specs.Types.{ReadServing, TakeTicket, TicketInside, Phase}

-- a thread ahead has to enter, to call, and to read and to write `now_serving`; then, as any other
-- one, it calls and takes a ticket
abbrev moves_left : Left
moves_left true (AwaitTurn ticket) = 6
moves_left true (TicketInside ticket) = 5
moves_left true (ReadServing ticket) = 4
moves_left true (PassOn ticket) = 3
moves_left false Idle = 2
moves_left false TakeTicket = 1
moves_left ahead p = 0

-- a thread that waits has a ticket
has_ticket : (p : Phase) → is_phase p ≡ true → IsInQueue p → ticket_of p ≢ None
has_ticket p fits waits = grind arith

-- so it is in the queue
queued : {bits : ℕ} {ws q : List ℕ} {ps : List Phase} → IsQueue bits ws ps q → (t : ℕ)
    → is_phase (phase_at ps t) ≡ true → IsInQueue (phase_at ps t) → has q t ≡ true
queued {q} {ps} agreed t fits waits =
    true_from_ne_false (has q t)
    (λ absent. has_ticket (phase_at ps t) fits waits (agreed.others t absent))

-- each move but a failed poll lowers the moves that are left
lowers : Lowers Ticket moves_left
lowers bits ws ps q t u Idle (Call Acquire) given passed =
    outside (no_member given.agrees u (ap ticket_of given.phase_is)) (omega arith)
lowers bits ws ps q t u (TicketInside ticket) (Call Release) given passed =
    let at_head =
    inside_is_head given.agrees u ticket (ap ticket_of given.phase_is) (λ awaited same. cc) in
    head_moves at_head.head
    (not_before ps t u given.phase_is (λ waits. waits) passed.waits) (omega arith)
lowers bits ws ps q t u TakeTicket (Step kind) given passed =
    let absent = no_member given.agrees u (ap ticket_of given.phase_is) in
    let may_act = allows_acquire q u (ap family_of given.kind_is) (omega arith) absent in
    rw may_act (joins (queued given.agrees t passed.fits passed.waits) absent (omega arith))
lowers bits ws ps q t u (AwaitTurn ticket) (Step kind) given passed =
    elim (eqb_tells (slice_index ws 1) ticket) [
      | inr (test, _) ↦ rw test (anywhere (λ ahead. omega arith))
      | inl (test, same) ↦
          let at_head = served_is_head given.agrees u (rw same given.phase_is) in
          let differs =
          not_after ps t u (TicketInside ticket) given.thread (λ waits. waits)
          (rw test at passed.waits_on) in
          rw test (head_moves at_head.head differs (omega arith))
    ]
lowers bits ws ps q t u (ReadServing ticket) (Step kind) given passed =
    let at_head =
    inside_is_head given.agrees u ticket (ap ticket_of given.phase_is) (λ awaited same. cc) in
    head_moves at_head.head
    (not_before ps t u given.phase_is (λ waits. waits) passed.waits) (omega arith)
lowers bits ws ps q t u (PassOn ticket) (Step kind) given passed =
    let at_head =
    inside_is_head given.agrees u ticket (ap ticket_of given.phase_is) (λ awaited same. cc) in
    let may_act = allows_release q u (ap family_of given.kind_is) (omega arith) at_head.head in
    rw may_act
    (head_leaves given.agrees.once at_head.head
    (not_before ps t u given.phase_is (λ waits. waits) passed.waits) (omega arith))
lowers bits ws ps q t u p m given passed = cc

-- a thread has at most six moves left
at_most : (ahead : Bool) (p : Phase) → moves_left ahead p ≤ 6
at_most ahead p = grind arith

-- a thread that waits has none
none_left : (p : Phase) → is_phase p ≡ true → IsInQueue p → moves_left false p ≡ 0
none_left p fits waits = grind arith

few : AreFew Ticket moves_left 6
few bits ws ps q t in_lock agreed fits waits =
    let left : ℕ → ℕ = λ v. moves_left (is_ahead q.queue t v) (phase_at ps v) in
    let none : left t ≡ 0 =
    rw (ahead_self q.queue t) (none_left (phase_at ps t) fits waits) in
    omega (
      arith,
      total_but_one left (length ps) 6 t (λ v. at_most _ (phase_at ps v)) in_lock,
      none,
    )

pub free : IsStarvationFree Ticket 6
free = starvation_free Ticket moves_left 6 lowers few
