-- The ticket lock: each step adds the next entries of its call, and each move preserves that words
-- and phases agree with the queue.
use Rattle.std.proofs.Common.{List, ap, arith, inl, inr, refl, rules, slice_index, sym, ℕ, ◌<◌, ◌≡◌}
use Rattle.std.proofs.Common.{◌^◌}
use Rattle.std.proofs.{Math.Nat.mod-eq_of_lt, lemmas.Nat.pow_pos, lemmas.Bool.Decides.eqb_tells}
use Rattle.std.proofs.lemmas.List.{length-replicate, length-set}
use Rattle.lk_locks.specs.{Sequential.nobody, State.start, Locks.family_of}
use Rattle.lk_locks.specs.{invariants.Locks.AgreeAs, invariants.ticket.ticket_of}
use Rattle.lk_locks.proofs.Cases.{LockProof, Keeps, waits}
use Rattle.lk_locks.proofs.Threads.{all_idle, rest_false}
use Rattle.lk_locks.proofs.invariants.TicketQueue.{inside_is_head, no_member, queue_frame}
use Rattle.lk_locks.proofs.invariants.TicketQueue.{queue_pass, queue_take, served_is_head}
use Rattle.lk_locks.specs.Types.{Ticket, Call, Step, Acquire, Release, AwaitTurn, Idle, PassOn}
use Rattle.lk_locks.specs.Types.{ReadServing, TakeTicket, TicketInside}
use Rattle.lk_locks.proofs.Requests.{allows_acquire, allows_release}

-- each move keeps the queue, and its entries may come
keeps : Keeps Ticket
keeps bits ws ps q t Idle (Call Acquire) given =
    let no_ticket = ap ticket_of given.phase_is in (
      (tt, tt),
      queue_frame given.agrees t TakeTicket given.thread (sym no_ticket)
          (rest_false q.queue t (no_member given.agrees t no_ticket)),
    )
keeps bits ws ps q t (TicketInside ticket) (Call Release) given =
    let has_ticket = ap ticket_of given.phase_is in
    let at_head = inside_is_head given.agrees t ticket has_ticket (λ awaited same. cc) in (
      (tt, tt),
      queue_frame given.agrees t (ReadServing ticket) given.thread (sym has_ticket) at_head.alone,
    )
keeps bits ws ps q t TakeTicket (Step kind) given =
    let no_ticket = ap ticket_of given.phase_is in
    let may_act =
    allows_acquire q t (ap family_of given.kind_is) (omega arith)
    (no_member given.agrees t no_ticket) in
    ((may_act, tt), rw may_act (queue_take given.agrees t given.thread given.enough no_ticket))
keeps bits ws ps q t (AwaitTurn ticket) (Step kind) given =
    elim (eqb_tells (slice_index ws 1) ticket) [
      | inr (test, _) ↦ rw test (waits given)
      | inl (test, same) ↦
          let at_head = served_is_head given.agrees t (rw same given.phase_is) in
          rw test (
            (at_head.head, tt),
            queue_frame given.agrees t (TicketInside ticket) given.thread
                (sym (ap ticket_of given.phase_is)) at_head.alone,
          )
    ]
keeps bits ws ps q t (ReadServing ticket) (Step kind) given =
    let at_head =
    inside_is_head given.agrees t ticket (ap ticket_of given.phase_is) (λ awaited same. cc) in (
      tt,
      queue_frame given.agrees t (PassOn (slice_index ws 1)) given.thread
          (rw (given.phase_is, at_head.ticket)) at_head.alone,
    )
keeps bits ws ps q t (PassOn ticket) (Step kind) given =
    let at_head =
    inside_is_head given.agrees t ticket (ap ticket_of given.phase_is) (λ awaited same. cc) in
    let may_act = allows_release q t (ap family_of given.kind_is) (omega arith) at_head.head in (
      (may_act, (tt, tt)),
      rw (may_act, at_head.ticket)
          (queue_pass bits ws ps q.queue t given.thread given.enough at_head.head at_head.alone
          given.agrees),
    )
keeps bits ws ps q t p m given = cc

-- at the start the words are clear and all threads idle
starts : (bits : ℕ) (ws : List ℕ) (n : ℕ) → n < 2 ^ bits → ((i : ℕ) → slice_index ws i ≡ 0)
    → AgreeAs Ticket (start Ticket bits ws n) (nobody Ticket)
starts bits ws n few clear = record {
  narrow = rw (length-replicate n Idle) few;
  serving = rw (clear 1) (pow_pos bits);
  tickets = tt;
  next = cc (clear 0, clear 1, mod-eq_of_lt (pow_pos bits));
  once = tt;
  members = λ t queued. cc;
  others = λ t not_queued. ap ticket_of (all_idle n t);
}

-- all that the other proofs use of the ticket lock; most of it is found from its table, by cases
pub proof : LockProof Ticket
proof = record {
  goes_on = λ bits t ws p. search rules;
  begins = λ n t p op fits own not_refused. search rules;
  owed_is_own = λ t p. search rules;
  idle_rest = λ t. refl;
  keeps_length = λ bits t ws p. search (rules, length-set);
  idle_fits = λ n. refl;
  call_fits = λ n p op fits. search rules;
  step_fits = λ n bits t ws p in_lock fits links. search rules;
  clear_links = λ n ws clear. tt;
  links_fit = λ n bits t ws p in_lock links. tt;
  starts = starts;
  keeps = keeps;
}
