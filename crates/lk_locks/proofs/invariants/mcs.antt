-- The MCS queue lock: each step adds the next entries of its call, and each move preserves that
-- words and phases agree with the queue.
use Rattle.std.proofs.Common.{List, ap, arith, inl, inr, refl, set, slice_index, rules, length, ◌≤◌}
use Rattle.std.proofs.Common.{sym, ℕ, ◌*◌, ◌+◌, ◌-◌, ◌<◌, ◌∙◌, ◌≡◌, ◌^◌}
use Rattle.std.proofs.lemmas.Bool.{eq-eqb, cases_lt}
use Rattle.std.proofs.{lemmas.Bool.Decides.eqb_tells, lemmas.Grind.common_steps}
use Rattle.std.proofs.lemmas.List.{get_or-set_same, get_or-set_other, length-set, set-get_or}
use Rattle.std.proofs.lemmas.List.{set_past}
use Rattle.lk_locks.specs.{Sequential.nobody, State.start, mcs.locked, mcs.next, Locks.family_of}
use Rattle.lk_locks.specs.invariants.Locks.{AgreeAs}
use Rattle.lk_locks.specs.invariants.mcs.{locked_of, next_of}
use Rattle.lk_locks.proofs.Cases.{LockProof, waits, Keeps}
use Rattle.lk_locks.proofs.Threads.{all_idle}
use Rattle.lk_locks.proofs.invariants.McsLinks.{alone, empty_of, place_of, head_by_phase, not_alone}
use Rattle.lk_locks.proofs.invariants.McsLinks.{not_member}
use Rattle.lk_locks.proofs.invariants.McsQueue.{head_moves, mcs_first, mcs_grant, mcs_only}
use Rattle.lk_locks.proofs.invariants.McsQueue.{mcs_later, mcs_out, mcs_swap, may_grant}
use Rattle.lk_locks.specs.Types.{Mcs, Call, Step, Acquire, Release, AwaitGrant, AwaitLink, CasTail}
use Rattle.lk_locks.specs.Types.{ClearNext, Grant, Idle, LinkTo, McsInside, ReadNext, SetLocked}
use Rattle.lk_locks.specs.Types.{SwapTail}
use Rattle.lk_locks.proofs.Requests.{allows_acquire, allows_release}

-- each move keeps the queue, and its entries may come
keeps : Keeps Mcs
keeps bits ws ps q t Idle (Call Acquire) given = (
  (tt, tt),
  mcs_out given.agrees ws t ClearNext given.thread
      (not_member given.agrees t given.phase_is (λ rest first. first) (λ before after. after)) refl
      (λ other differs. refl) (λ other. refl) tt,
)
keeps bits ws ps q t McsInside (Call Release) given =
    let at_head =
    head_by_phase given.agrees t given.phase_is (λ outside. outside) (λ before after. after) in
    ((tt, tt), head_moves ReadNext at_head given.thread tt given.agrees)
keeps bits ws ps q t ClearNext (Step kind) given = (
  tt,
  mcs_out given.agrees (set ws (next t) 0) t SwapTail given.thread
      (not_member given.agrees t given.phase_is (λ rest first. first) (λ before after. after))
      (get_or-set_other ws (next t) 0 0 0 (omega arith))
      (λ other differs. get_or-set_other ws (next t) (next other) 0 0 (omega arith))
      (λ other. get_or-set_other ws (next t) (locked other) 0 0 (omega arith))
      (get_or-set_same ws (next t) 0 0 (omega (arith, given.enough))),
)
keeps bits ws ps q t SwapTail (Step kind) given =
    let not_queued =
    not_member given.agrees t given.phase_is (λ rest first. first) (λ before after. after) in
    let may_act = allows_acquire q t (ap family_of given.kind_is) (omega arith) not_queued in
    let no_next : next_of ws t ≡ 0 = rw given.phase_is at (given.agrees.others t not_queued) in
    elim (eqb_tells (slice_index ws 0) 0) [
      | inl (test, is_nil) ↦
          let empty = empty_of ws ps q.queue is_nil given.agrees in
          rw test (
            (may_act, (rw (may_act, empty) (eq-eqb t t refl), tt)),
            rw (may_act, empty)
                (mcs_first ws ps t given.thread (omega (arith, given.enough)) no_next
                (rw empty at given.agrees)),
          )
      | inr (test, not_nil) ↦ rw test (
        (may_act, tt),
        rw may_act
            (mcs_swap ws ps q.queue t given.thread (omega (arith, given.enough)) not_queued no_next
            not_nil given.agrees),
      )
    ]
keeps bits ws ps q t (SetLocked predecessor) (Step kind) given =
    elim (place_of given.agrees t given.phase_is (λ outside. outside)) [
      | inl at_head ↦ absurd at_head.first
      | inr (in_rest, one, (knows_one, one_nil)) ↦ (
        tt,
        mcs_later ws (set ws (locked t) 1) ps q.queue t predecessor (SetLocked predecessor)
            (LinkTo predecessor) given.phase_is given.thread in_rest
            (get_or-set_other ws (locked t) 0 1 0 (omega arith)) (rw knows_one one_nil)
            (λ before (knows, no_next). (
              sym knows,
              (
                knows,
                get_or-set_other ws (locked t) (next before) 1 0 (omega arith) ∙ no_next,
                get_or-set_same ws (locked t) 1 0 (omega (arith, given.enough)),
              ),
            ))
            (λ other differs. get_or-set_other ws (locked t) (next other) 1 0 (omega arith))
            (λ other differs. get_or-set_other ws (locked t) (locked other) 1 0 (omega arith))
            given.agrees,
      )
    ]
keeps bits ws ps q t (LinkTo predecessor) (Step kind) given =
    elim (place_of given.agrees t given.phase_is (λ outside. outside)) [
      | inl at_head ↦ absurd at_head.first
      | inr (in_rest, one, (knows_one, one_nil, one_locks)) ↦ (
        tt,
        mcs_later ws (set ws (next predecessor) (t + 1)) ps q.queue t predecessor
            (LinkTo predecessor) AwaitGrant given.phase_is given.thread in_rest
            (get_or-set_other ws (next predecessor) 0 (t + 1) 0 (omega arith))
            (rw knows_one one_nil)
            (λ before (knows, no_next, locks). (
              sym knows,
              (
                rw (← knows)
                    (get_or-set_same ws (next predecessor) (t + 1) 0
                    (omega (arith, given.fits, given.enough))),
                get_or-set_other ws (next predecessor) (locked t) (t + 1) 0 (omega arith) ∙ locks,
              ),
            ))
            (λ other differs.
            get_or-set_other ws (next predecessor) (next other) (t + 1) 0 (omega arith))
            (λ other differs.
            get_or-set_other ws (next predecessor) (locked other) (t + 1) 0 (omega arith))
            given.agrees,
      )
    ]
keeps bits ws ps q t AwaitGrant (Step kind) given = elim (eqb_tells (locked_of ws t) 0) [
  | inr (test, _) ↦ rw test (waits given)
  | inl (test, granted) ↦ rw test (
      elim (place_of given.agrees t given.phase_is (λ outside. outside)) [
        | inl at_head ↦ (
          (at_head.head, tt),
          head_moves McsInside at_head given.thread tt given.agrees,
        )
        | inr (in_rest, before, (linked, locks)) ↦ absurd (omega (arith, locks, granted))
      ]
      )
]
keeps bits ws ps q t ReadNext (Step kind) given =
    let at_head =
    head_by_phase given.agrees t given.phase_is (λ outside. outside) (λ before after. after) in
    elim (eqb_tells (next_of ws t) 0) [
      | inl (test, _) ↦ rw test (tt, head_moves CasTail at_head given.thread tt given.agrees)
      | inr (test, linked) ↦ rw test (
        tt,
        head_moves (Grant (next_of ws t - 1)) at_head given.thread
            (may_grant ws ps t at_head.rest at_head.later linked) given.agrees,
      )
    ]
keeps bits ws ps q t CasTail (Step kind) given =
    let at_head =
    head_by_phase given.agrees t given.phase_is (λ outside. outside) (λ before after. after) in
    elim (eqb_tells (slice_index ws 0) (t + 1)) [
      | inl (test, own_tail) ↦
          let one = alone ws ps q.queue t at_head.rest at_head.is given.agrees own_tail in
          let may_act =
          allows_release q t (ap family_of given.kind_is) (omega arith) at_head.head in
          rw test (
            (may_act, (tt, tt)),
            rw (may_act, one)
                (mcs_only ws ps t given.thread (omega (arith, given.enough))
                (rw one at given.agrees)),
          )
      | inr (test, other_tail) ↦ rw (test, set-get_or ws 0 0) (
        tt,
        head_moves AwaitLink at_head given.thread
            (not_alone ws ps q.queue t at_head.rest at_head.is given.agrees other_tail)
            given.agrees,
      )
    ]
keeps bits ws ps q t AwaitLink (Step kind) given =
    let at_head =
    head_by_phase given.agrees t given.phase_is (λ outside. outside) (λ before after. after) in
    elim (eqb_tells (next_of ws t) 0) [
      | inl (test, _) ↦ rw test (waits given)
      | inr (test, linked) ↦ rw test (
        tt,
        head_moves (Grant (next_of ws t - 1)) at_head given.thread
            (may_grant ws ps t at_head.rest at_head.later linked) given.agrees,
      )
    ]
keeps bits ws ps q t (Grant successor) (Step kind) given =
    let at_head =
    head_by_phase given.agrees t given.phase_is (λ outside. outside) (λ before after. after) in
    let may_act = allows_release q t (ap family_of given.kind_is) (omega arith) at_head.head in (
      (may_act, (tt, tt)),
      rw (may_act, at_head.is)
          (mcs_grant ws ps at_head.rest t successor given.thread
          (omega (arith, given.fits, given.enough)) at_head.first (rw at_head.is at given.agrees)),
    )
keeps bits ws ps q t p m given = cc

-- at the start the words are clear and all threads idle
starts : (bits : ℕ) (ws : List ℕ) (n : ℕ) → n < 2 ^ bits → ((i : ℕ) → slice_index ws i ≡ 0)
    → AgreeAs Mcs (start Mcs bits ws n) (nobody Mcs)
starts bits ws n few clear = record {
  tail_is = clear 0;
  links = tt;
  once = tt;
  members = λ t queued. cc;
  others = λ t not_queued. rw (all_idle n t) tt;
}

-- a word that names a thread, or none, still does after a write of such a value to any word
word_fits : (n : ℕ) (ws : List ℕ) (written value word : ℕ) → value ≤ n → slice_index ws word ≤ n
    → slice_index (set ws written value) word ≤ n
word_fits n ws written value word value_fits word_fitted = elim (eqb_tells word written) [
  | inr (_, other) ↦ rw (get_or-set_other ws written word value 0 other) word_fitted
  | inl (_, same) ↦ elim (cases_lt written (length ws)) [
    | inl inside ↦ rw (same, get_or-set_same ws written value 0 inside) value_fits
    | inr past ↦ rw (set_past ws written value past) word_fitted
  ]
]

-- all that the other proofs use of the MCS lock; most of it is found from its table, by cases
pub proof : LockProof Mcs
proof = record {
  goes_on = λ bits t ws p. grind (arith, common_steps);
  begins = λ n t p op fits own not_refused. search rules;
  owed_is_own = λ t p. search rules;
  idle_rest = λ t. refl;
  keeps_length = λ bits t ws p. search (rules, length-set);
  idle_fits = λ n. tt;
  call_fits = λ n p op fits. search rules;
  step_fits = λ n bits t ws p in_lock fits links. search rules;
  clear_links =
      λ n ws clear. (omega (arith, clear 0), λ thread below. omega (arith, clear (1 + 2 * thread)));
  links_fit = λ n bits t ws p in_lock links. grind (arith, word_fits n);
  starts = starts;
  keeps = keeps;
}
