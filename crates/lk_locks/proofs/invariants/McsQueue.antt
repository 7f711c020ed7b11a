-- The effect of each move of a thread on the queue of an MCS lock.
use Rattle.std.proofs.Common.{List, [], ap, arith, drop, eqb, false, inl, inr, length, refl, set}
use Rattle.std.proofs.Common.{slice_index, sym, true, ℕ, ◌++◌, ◌+◌, ◌-◌, ◌<◌, ◌∙◌, ◌∷◌, ◌≡◌, ◌≢◌}
use Rattle.std.proofs.lemmas.Bool.{eq-eqb, eqb-true, or_from, or_right}
use Rattle.std.proofs.lemmas.Bool.Decides.{eqb_tells}
use Rattle.std.proofs.lemmas.List.{get_or-set_same, length-set, get_or-set_other}
use Rattle.lk_locks.specs.{Sequential.has, State.phase_at, mcs.locked, mcs.next}
use Rattle.lk_locks.specs.invariants.mcs.{IsSuccessor, IsHead, IsRest, IsNotQueued, IsQueue}
use Rattle.lk_locks.specs.invariants.mcs.{last_of, locked_of, next_of}
use Rattle.lk_locks.proofs.Threads.{at_other, at_same, once_more, first_has}
use Rattle.lk_locks.proofs.Threads.{members_more, more_other, more_same}
use Rattle.lk_locks.specs.Types.{Phase, AwaitGrant, Grant, Idle, McsInside, SetLocked}
use Rattle.lk_locks.proofs.invariants.McsLinks.{IsHeadOf, has_predecessor, first_more, last_more}
use Rattle.lk_locks.proofs.invariants.McsLinks.{later_change, later_frame, later_more, first_frame}
use Rattle.lk_locks.proofs.invariants.McsLinks.{stays_outside, links_frame}

module _ {ws q : List ℕ} {ps : List Phase} (agreed : IsQueue ws ps q) where
  -- the queue stays if a thread outside it changes its phase and link, and stays outside
  pub mcs_out : (new_ws : List ℕ) (t : ℕ) (p : Phase) → t < length ps → has q t ≡ false
      → slice_index new_ws 0 ≡ slice_index ws 0
      → ((other : ℕ) → other ≢ t → next_of new_ws other ≡ next_of ws other)
      → ((other : ℕ) → locked_of new_ws other ≡ locked_of ws other) → IsNotQueued new_ws t p
      → IsQueue new_ws (set ps t p) q
  mcs_out new_ws t p in_lock not_queued same_tail same_next same_locked outside = record {
    tail_is = same_tail ∙ agreed.tail_is;
    links =
        links_frame ws new_ws ps (set ps t p) q
        (λ member queued.
        let differs : member ≢ t = λ same. cc in
        record {
          phase = at_other ps t member p differs;
          next = same_next member differs;
          locked = same_locked member;
        })
        agreed.links;
    once = agreed.once;
    members = rw (length-set ps t p) agreed.members;
    others = λ thread absent. elim (eqb_tells thread t) [
      | inl (_, same) ↦ rw (same, at_same ps t p in_lock) outside
      | inr (_, other) ↦
          stays_outside ws new_ws ps t thread p other (same_next thread other)
          (agreed.others thread absent)
    ];
  }

-- the queue stays if its head changes its phase to one that a head may have
mcs_head : (ws : List ℕ) (ps : List Phase) (rest : List ℕ) (t : ℕ) (p : Phase) → t < length ps
    → IsHead ws t rest p → IsQueue ws ps (t ∷ rest) → IsQueue ws (set ps t p) (t ∷ rest)
mcs_head ws ps rest t p in_lock first agreed =
    let (was_first, later) = agreed.links in
    let (head_once, rest_once) = agreed.once in
    record {
      tail_is = agreed.tail_is;
      links = (
        rw (at_same ps t p in_lock) first,
        later_frame ws ws ps (set ps t p) t rest refl
            (λ member queued. record {
              phase = at_other ps t member p (λ same. cc);
              next = refl;
              locked = refl;
            })
            later,
      );
      once = agreed.once;
      members = rw (length-set ps t p) agreed.members;
      others = λ thread absent.
          rw (at_other ps t thread p (λ same. cc (first_has t rest))) (agreed.others thread absent);
    }

-- the head goes on, and changes nothing but its phase
pub head_moves : {ws q : List ℕ} {ps : List Phase} {t : ℕ} {was : Phase} (p : Phase)
    (at_head : IsHeadOf ws ps q t was) → t < length ps → IsHead ws t at_head.rest p
    → IsQueue ws ps q → IsQueue ws (set ps t p) q
head_moves {ws} {ps} {t} p at_head in_lock first agreed =
    rw at_head.is (mcs_head ws ps at_head.rest t p in_lock first (rw at_head.is at agreed))

-- The queue stays if a later member changes its phase, and the link of its predecessor, which was
-- nil.
pub mcs_later : (ws new_ws : List ℕ) (ps : List Phase) (q : List ℕ) (t predecessor : ℕ)
    (old p : Phase) → phase_at ps t ≡ old → t < length ps → has (drop 1 q) t ≡ true
    → slice_index new_ws 0 ≡ slice_index ws 0 → next_of ws predecessor ≡ 0
    → ((before : ℕ) → IsSuccessor ws before t old
    → (before ≡ predecessor) × IsSuccessor new_ws before t p)
    → ((other : ℕ) → other ≢ predecessor → next_of new_ws other ≡ next_of ws other)
    → ((other : ℕ) → other ≢ t → locked_of new_ws other ≡ locked_of ws other)
    → IsQueue ws ps q → IsQueue new_ws (set ps t p) q
mcs_later ws new_ws ps [] t predecessor old p was in_lock later same_tail was_nil moves same_next
    same_locked agreed = cc
mcs_later ws new_ws ps (head ∷ rest) t predecessor old p was in_lock later same_tail was_nil moves
    same_next same_locked agreed =
    let (head_first, after_head) = agreed.links in
    let (head_once, rest_once) = agreed.once in
    let head_differs : head ≢ t = λ same. cc in
    let (before, member, comes_after) = has_predecessor ws ps head t rest after_head later in
    let (is_predecessor, still_after) = moves before (rw was at comes_after) in
    let queued : has (head ∷ rest) t ≡ true = or_right (eqb t head) (has rest t) later in
    record {
      tail_is = same_tail ∙ agreed.tail_is;
      links = (
        rw (at_other ps t head p head_differs)
            (first_frame ws new_ws head rest (phase_at ps head)
            (λ linked. same_next head (λ same. linked (ap (next_of ws) same ∙ was_nil)))
            (same_locked head head_differs) head_first),
        later_change ws new_ws ps (set ps t p) head t predecessor rest agreed.once later
            (λ one after.
            let (is_predecessor, still_after) = moves one (rw was at after) in
            (is_predecessor, rw (at_same ps t p in_lock) still_after))
            (λ other differs. at_other ps t other p differs) same_next same_locked after_head,
      );
      once = agreed.once;
      members = rw (length-set ps t p) agreed.members;
      others = λ thread absent.
          stays_outside ws new_ws ps t thread p (λ same. cc) (same_next thread (λ same. cc))
          (agreed.others thread absent);
    }

-- a thread that swaps a nil tail is alone in the queue, and inside
pub mcs_first : (ws : List ℕ) (ps : List Phase) (t : ℕ) → t < length ps → 0 < length ws
    → next_of ws t ≡ 0 → IsQueue ws ps [] → IsQueue (set ws 0 (t + 1)) (set ps t McsInside) (t ∷ [])
mcs_first ws ps t in_lock has_tail no_next agreed = record {
  tail_is = get_or-set_same ws 0 (t + 1) 0 has_tail;
  links = (
    rw (at_same ps t McsInside in_lock) tt,
    get_or-set_other ws 0 (next t) (t + 1) 0 (omega arith) ∙ no_next,
  );
  once = (refl, tt);
  members =
      rw (length-set ps t McsInside) (members_more (length ps) [] t in_lock agreed.members);
  others = λ thread absent. elim (eqb_tells thread t) [
    | inl (test, _) ↦ cc
    | inr (_, other) ↦
        stays_outside ws (set ws 0 (t + 1)) ps t thread McsInside other
        (get_or-set_other ws 0 (next thread) (t + 1) 0 (omega arith)) (agreed.others thread refl)
  ];
}

-- a swap of a tail that is not nil leaves a queue with one more thread, which knows the last
pub mcs_swap : (ws : List ℕ) (ps : List Phase) (q : List ℕ) (t : ℕ) → t < length ps → 0 < length ws
    → has q t ≡ false → next_of ws t ≡ 0 → slice_index ws 0 ≢ 0 → IsQueue ws ps q
    → IsQueue (set ws 0 (t + 1)) (set ps t (SetLocked (slice_index ws 0 - 1))) (q ++ t ∷ [])
mcs_swap ws ps [] t in_lock has_tail not_queued no_next not_nil agreed =
    absurd (not_nil agreed.tail_is)
mcs_swap ws ps (head ∷ rest) t in_lock has_tail not_queued no_next not_nil agreed =
    let new_ws : List ℕ = set ws 0 (t + 1) in
    let p : Phase = SetLocked (slice_index ws 0 - 1) in
    let is_last : slice_index ws 0 - 1 ≡ last_of head rest = omega (arith, agreed.tail_is) in
    let links =
    links_frame ws new_ws ps (set ps t p) (head ∷ rest)
    (λ member queued. record {
      phase = at_other ps t member p (λ same. cc);
      next = get_or-set_other ws 0 (next member) (t + 1) 0 (omega arith);
      locked = get_or-set_other ws 0 (locked member) (t + 1) 0 (omega arith);
    })
    agreed.links in
    let (head_first, after_head) = links in
    record {
      tail_is =
          get_or-set_same ws 0 (t + 1) 0 has_tail
          ∙ ap (λ last. last + 1) (sym (last_more head t rest));
      links = (
        first_more new_ws head t rest (phase_at (set ps t p) head) head_first,
        later_more new_ws (set ps t p) head t rest after_head
            (at_same ps t p in_lock ∙ ap (λ last. SetLocked last) is_last)
            (get_or-set_other ws 0 (next t) (t + 1) 0 (omega arith) ∙ no_next),
      );
      once = once_more (head ∷ rest) t agreed.once not_queued;
      members =
          rw (length-set ps t p) (members_more (length ps) (head ∷ rest) t in_lock agreed.members);
      others = λ thread absent. elim (eqb_tells thread t) [
        | inl (_, same) ↦ cc (more_same (head ∷ rest) t)
        | inr (_, other) ↦
            stays_outside ws new_ws ps t thread p other
            (get_or-set_other ws 0 (next thread) (t + 1) 0 (omega arith))
            (agreed.others thread (sym (more_other (head ∷ rest) t thread other) ∙ absent))
      ];
    }

-- the last thread that leaves makes the tail nil, and the queue empty
pub mcs_only : (ws : List ℕ) (ps : List Phase) (t : ℕ) → t < length ps → 0 < length ws
    → IsQueue ws ps (t ∷ []) → IsQueue (set ws 0 0) (set ps t Idle) []
mcs_only ws ps t in_lock has_tail agreed = record {
  tail_is = get_or-set_same ws 0 0 0 has_tail;
  links = tt;
  once = tt;
  members = λ thread queued. cc;
  others = λ thread absent. elim (eqb_tells thread t) [
    | inl (_, same) ↦ rw (same, at_same ps t Idle in_lock) tt
    | inr (test, other) ↦
        stays_outside ws (set ws 0 0) ps t thread Idle other
        (get_or-set_other ws 0 (next thread) 0 0 (omega arith))
        (agreed.others thread (rw test refl))
  ];
}

-- a thread that its predecessor's link names waits to be granted
pub awaits_grant : (ws : List ℕ) (before t : ℕ) (p : Phase) → next_of ws before ≡ t + 1
    → IsSuccessor ws before t p → p ≡ AwaitGrant
awaits_grant ws before t p linked after = grind arith

-- a grant takes the head off the queue, and its successor becomes the head
pub mcs_grant : (ws : List ℕ) (ps : List Phase) (rest : List ℕ) (t successor : ℕ)
    → t < length ps → locked successor < length ws → IsHead ws t rest (Grant successor)
    → IsQueue ws ps (t ∷ rest) → IsQueue (set ws (locked successor) 0) (set ps t Idle) rest
mcs_grant ws ps [] t successor in_lock has_locked (grants_head, linked) agreed = cc
mcs_grant ws ps (second ∷ rest) t successor in_lock has_locked (grants_head, linked) agreed =
    let new_ws : List ℕ = set ws (locked successor) 0 in
    let (head_first, (second_after, later)) = agreed.links in
    let (head_once, rest_once) = agreed.once in
    let (second_once, others_once) = rest_once in
    let is_second = eqb-true successor second grants_head in
    let second_awaits =
    awaits_grant ws t second (phase_at ps second) (linked ∙ ap (λ thread. thread + 1) is_second)
    second_after in
    record {
      tail_is = get_or-set_other ws (locked successor) 0 0 0 (omega arith) ∙ agreed.tail_is;
      links = (
        rw (at_other ps t second Idle (λ same. cc (first_has second rest)) ∙ second_awaits)
            (rw (← is_second) (get_or-set_same ws (locked successor) 0 0 has_locked)),
        later_frame ws new_ws ps (set ps t Idle) second rest
            (get_or-set_other ws (locked successor) (next second) 0 0 (omega arith))
            (λ member queued.
            let in_queue : has (second ∷ rest) member ≡ true =
            or_right (eqb member second) (has rest member) queued in
            let differs : member ≢ successor = λ same. cc in
            record {
              phase = at_other ps t member Idle (λ same. cc);
              next = get_or-set_other ws (locked successor) (next member) 0 0 (omega arith);
              locked = get_or-set_other ws (locked successor) (locked member) 0 0 (omega arith);
            })
            later,
      );
      once = rest_once;
      members = rw (length-set ps t Idle) (λ thread queued.
          agreed.members thread (or_right (eqb thread t) (has (second ∷ rest) thread) queued));
      others = λ thread absent. elim (eqb_tells thread t) [
        | inl (_, same) ↦ rw (same, at_same ps t Idle in_lock) tt
        | inr (test, other) ↦
            stays_outside ws new_ws ps t thread Idle other
            (get_or-set_other ws (locked successor) (next thread) 0 0 (omega arith))
            (agreed.others thread (or_from (eqb thread t) (has (second ∷ rest) thread) test absent))
      ];
    }

-- if its predecessor's link is not nil, a thread is the one that the link names
pub linked_is : (ws : List ℕ) (before t : ℕ) (p : Phase) → next_of ws before ≢ 0
    → IsSuccessor ws before t p → next_of ws before - 1 ≡ t
linked_is ws before t p has_next after = grind arith

-- once the head has read its link, the link names the second in the queue, and the head may grant
pub may_grant : (ws : List ℕ) (ps : List Phase) (t : ℕ) (q : List ℕ) → IsRest ws ps t q
    → next_of ws t ≢ 0 → IsHead ws t q (Grant (next_of ws t - 1))
may_grant ws ps t [] no_next has_next = absurd (has_next no_next)
may_grant ws ps t (successor ∷ rest) (after, later) has_next = (
  eq-eqb (next_of ws t - 1) successor
      (linked_is ws t successor (phase_at ps successor) has_next after),
  omega arith,
)
