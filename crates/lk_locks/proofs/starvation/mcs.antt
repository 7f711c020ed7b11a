-- The MCS lock: while a thread waits in the queue, the threads ahead of it link themselves, enter,
-- grant the lock and swap after it, and the others swap after it.
use Rattle.std.proofs.Common.{◌≡◌, ℕ, ◌*◌, ◌+◌, ◌≤◌, ◌<◌, List, [], ◌∷◌, length, slice_index, Bool}
use Rattle.std.proofs.Common.{true, false, ap, arith, inl, inr, refl, sym}
use Rattle.std.proofs.lemmas.Bool.{eq-eqb, true_from_ne_false}
use Rattle.std.proofs.lemmas.Bool.Decides.{eqb_tells, nat_tests}
use Rattle.lk_locks.specs.{Locks.family_of, Starvation.IsInQueue, Starvation.IsStarvationFree}
use Rattle.lk_locks.specs.{State.phase_at, Sequential.has}
use Rattle.lk_locks.specs.invariants.mcs.{IsHead, IsNotQueued, IsQueue, locked_of, next_of}
use Rattle.lk_locks.proofs.starvation.Ahead.{is_ahead, ahead_head, ahead_self}
use Rattle.lk_locks.proofs.Requests.{allows_acquire, allows_release}
use Rattle.lk_locks.proofs.Threads.{first_has}
use Rattle.lk_locks.proofs.starvation.Waiting.{starvation_free}
use Rattle.lk_locks.proofs.starvation.Totals.{total_but_one, total_but_two}
use Rattle.lk_locks.proofs.invariants.McsLinks.{alone, empty_of, head_by_phase, not_member}
use Rattle.lk_locks.proofs.invariants.McsLinks.{place_of}
use Rattle.lk_locks.proofs.starvation.Lowering.{AreFew, Left, Lowers, all_left, anywhere}
use Rattle.lk_locks.proofs.starvation.Lowering.{head_leaves, head_moves, joins, not_after}
use Rattle.lk_locks.proofs.starvation.Lowering.{not_before, outside}
use Rattle.lk_locks.specs.Types.{Mcs, Call, Step, Acquire, Release, AwaitGrant, AwaitLink, CasTail}
use Rattle.lk_locks.specs.Types.{ClearNext, Grant, Idle, LinkTo, McsInside, Phase, ReadNext}
use Rattle.lk_locks.specs.Types.{SetLocked, SwapTail}

-- A thread ahead has to set `locked`, to link itself, to enter and to call, to look for its
-- successor, to try the tail, to find the link and to grant; then, as any other one, it calls,
-- clears its link, swaps, sets `locked` and links itself.
abbrev moves_left : Left
moves_left true (SetLocked predecessor) = 13
moves_left true (LinkTo predecessor) = 12
moves_left true AwaitGrant = 11
moves_left true McsInside = 10
moves_left true ReadNext = 9
moves_left true CasTail = 8
moves_left true AwaitLink = 7
moves_left true (Grant successor) = 6
moves_left false Idle = 5
moves_left false ClearNext = 4
moves_left false SwapTail = 3
moves_left false (SetLocked predecessor) = 2
moves_left false (LinkTo predecessor) = 1
moves_left ahead p = 0

-- a thread that waits is in the queue
queued : {ws q : List ℕ} {ps : List Phase} → IsQueue ws ps q → (t : ℕ)
    → IsInQueue (phase_at ps t) → has q t ≡ true
queued {ws} {q} {ps} agreed t waits =
    true_from_ne_false (has q t)
    (λ absent. is_inside ws t (phase_at ps t) waits (agreed.others t absent))
  where
    is_inside : (ws : List ℕ) (t : ℕ) (p : Phase) → IsInQueue p → IsNotQueued ws t p → ⊥
    is_inside ws t p waits outside = grind arith

-- a thread that sets `locked`, or links itself, has one move less to make
linking : (ahead : Bool) (predecessor : ℕ)
    → (moves_left ahead (LinkTo predecessor) + 1 ≤ moves_left ahead (SetLocked predecessor))
    × (moves_left ahead AwaitGrant + 1 ≤ moves_left ahead (LinkTo predecessor))
linking true predecessor = omega arith
linking false predecessor = omega arith

-- if one thread alone is in the queue, a member is this one
only : (u t : ℕ) → has (u ∷ []) t ≡ true → t ≡ u
only u t member = grind (arith, nat_tests)

-- each move but a failed poll lowers the moves that are left
lowers : Lowers Mcs moves_left
lowers bits ws ps q t u Idle (Call Acquire) given passed =
    outside
    (not_member given.agrees u given.phase_is (λ rest first. first) (λ before after. after))
    (omega arith)
lowers bits ws ps q t u McsInside (Call Release) given passed =
    let at_head =
    head_by_phase given.agrees u given.phase_is (λ outside. outside) (λ before after. after) in
    head_moves at_head.head (not_before ps t u given.phase_is (λ waits. waits) passed.waits)
    (omega arith)
lowers bits ws ps q t u ClearNext (Step kind) given passed =
    outside
    (not_member given.agrees u given.phase_is (λ rest first. first) (λ before after. after))
    (omega arith)
lowers bits ws ps q t u SwapTail (Step kind) given passed =
    let absent =
    not_member given.agrees u given.phase_is (λ rest first. first) (λ before after. after) in
    let member = queued given.agrees t passed.waits in
    let may_act = allows_acquire q u (ap family_of given.kind_is) (omega arith) absent in
    elim (eqb_tells (slice_index ws 0) 0) [
      | inl (test, is_nil) ↦ cc (empty_of ws ps q.queue is_nil given.agrees)
      | inr (test, _) ↦ rw (test, may_act) (joins member absent (omega arith))
    ]
lowers bits ws ps q t u (SetLocked predecessor) (Step kind) given passed =
    anywhere (λ ahead. (linking ahead predecessor).0)
lowers bits ws ps q t u (LinkTo predecessor) (Step kind) given passed =
    anywhere (λ ahead. (linking ahead predecessor).1)
lowers bits ws ps q t u AwaitGrant (Step kind) given passed =
    elim (eqb_tells (locked_of ws u) 0) [
      | inr (test, _) ↦ rw test (anywhere (λ ahead. omega arith))
      | inl (test, granted) ↦ rw test (
          elim (place_of given.agrees u given.phase_is (λ outside. outside)) [
            | inl at_head ↦
                head_moves at_head.head
                (not_after ps t u McsInside given.thread (λ waits. waits)
                (rw test at passed.waits_on))
                (omega arith)
            | inr (in_rest, before, (linked, locks)) ↦ absurd (omega (arith, locks, granted))
          ]
          )
    ]
lowers bits ws ps q t u ReadNext (Step kind) given passed =
    let at_head =
    head_by_phase given.agrees u given.phase_is (λ outside. outside) (λ before after. after) in
    let differs = not_before ps t u given.phase_is (λ waits. waits) passed.waits in
    elim (eqb_tells (next_of ws u) 0) [
      | inl (test, _) ↦ rw test (head_moves at_head.head differs (omega arith))
      | inr (test, _) ↦ rw test (head_moves at_head.head differs (omega arith))
    ]
lowers bits ws ps q t u CasTail (Step kind) given passed =
    let at_head =
    head_by_phase given.agrees u given.phase_is (λ outside. outside) (λ before after. after) in
    let differs = not_before ps t u given.phase_is (λ waits. waits) passed.waits in
    let member = queued given.agrees t passed.waits in
    elim (eqb_tells (slice_index ws 0) (u + 1)) [
      | inl (test, own_tail) ↦
          let one = alone ws ps q.queue u at_head.rest at_head.is given.agrees own_tail in
          absurd (differs (sym (only u t (rw one at member))))
      | inr (test, _) ↦ rw test (head_moves at_head.head differs (omega arith))
    ]
lowers bits ws ps q t u AwaitLink (Step kind) given passed =
    let at_head =
    head_by_phase given.agrees u given.phase_is (λ outside. outside) (λ before after. after) in
    let differs = not_before ps t u given.phase_is (λ waits. waits) passed.waits in
    elim (eqb_tells (next_of ws u) 0) [
      | inl (test, _) ↦ rw test (anywhere (λ ahead. omega arith))
      | inr (test, _) ↦ rw test (head_moves at_head.head differs (omega arith))
    ]
lowers bits ws ps q t u (Grant successor) (Step kind) given passed =
    let at_head =
    head_by_phase given.agrees u given.phase_is (λ outside. outside) (λ before after. after) in
    let may_act = allows_release q u (ap family_of given.kind_is) (omega arith) at_head.head in
    rw may_act
    (head_leaves given.agrees.once at_head.head
    (not_before ps t u given.phase_is (λ waits. waits) passed.waits) (omega arith))
lowers bits ws ps q t u p m given passed = cc

-- a thread has at most 13 moves left
at_most : (ahead : Bool) (p : Phase) → moves_left ahead p ≤ 13
at_most ahead p = grind arith

-- a thread that waits has at most two
waiting_most : (p : Phase) → IsInQueue p → moves_left false p ≤ 2
waiting_most p waits = grind arith

-- the head, which is granted the lock or was, has at most eleven, and none if it waits
head_most : (ws rest : List ℕ) (t : ℕ) (p : Phase) → IsHead ws t rest p
    → (moves_left true p ≤ 11) × (IsInQueue p → moves_left false p ≡ 0)
head_most ws rest t p first = grind arith

few_in : (ws : List ℕ) (ps : List Phase) (queue : List ℕ) (t : ℕ) → t < length ps
    → IsQueue ws ps queue → IsInQueue (phase_at ps t)
    → all_left moves_left ps queue t + 13 ≤ length ps * 13
few_in ws ps [] t in_lock agreed waits = cc (queued agreed t waits)
few_in ws ps (head ∷ rest) t in_lock agreed waits =
    let left : ℕ → ℕ = λ v. moves_left (is_ahead (head ∷ rest) t v) (phase_at ps v) in
    let each : (v : ℕ) → left v ≤ 13 = λ v. at_most _ (phase_at ps v) in
    let own : left t ≡ moves_left false (phase_at ps t) = rw (ahead_self (head ∷ rest) t) refl in
    let of_head = head_most ws rest head (phase_at ps head) agreed.links.0 in
    elim (eqb_tells t head) [
      | inl (_, same) ↦
          let none : moves_left false (phase_at ps t) ≡ 0 =
          rw same (of_head.1 (rw same at waits)) in
          omega (arith, total_but_one left (length ps) 13 t each in_lock, own, none)
      | inr (_, differs) ↦
          let ahead : is_ahead (head ∷ rest) t head ≡ true =
          ahead_head (head ∷ rest) t head (eq-eqb head head refl) (λ same. differs (sym same)) in
          let of_it : left head ≡ moves_left true (phase_at ps head) = rw ahead refl in
          omega (
            arith,
            total_but_two left (length ps) 13 t head each in_lock
                (agreed.members head (first_has head rest)) differs,
            own,
            waiting_most (phase_at ps t) waits,
            of_it,
            of_head.0,
          )
    ]

few : AreFew Mcs moves_left 13
few bits ws ps q t in_lock agreed fits waits =
    omega (arith, few_in ws ps q.queue t in_lock agreed waits)

pub free : IsStarvationFree Mcs 13
free = starvation_free Mcs moves_left 13 lowers few
