-- The FIFO read-write lock: each section adds the next entries of its call, and each move preserves
-- that the counts and the flag agree with the holders.
use Rattle.std.proofs.Common.{List, Some, [], ap, arith, inl, inr, length, refl, rules, set}
use Rattle.std.proofs.Common.{slice_index, sym, true, ℕ, ◌%◌, ◌+◌, ◌<◌, ◌^◌, ◌∙◌, ◌≡◌, ◌≤◌}
use Rattle.std.proofs.Math.Nat.{mod-add-mod, mod-eq_of_lt}
use Rattle.std.proofs.{lemmas.Bool.Decides.eqb_tells, lemmas.Nat.pow_pos, lemmas.Grind.common_steps}
use Rattle.std.proofs.lemmas.List.{get_or-set_other, get_or-set_same, length-set, length-replicate}
use Rattle.std.proofs.lemmas.Bool.{eq-eqb, ne_eqb}
use Rattle.lk_locks.specs.Change.{plus_one, with_one_more}
use Rattle.lk_locks.specs.Sequential.{nobody, Sequential, after_act, is_allowed}
use Rattle.lk_locks.specs.{State.start, invariants.Locks.AgreeAs}
use Rattle.lk_locks.specs.invariants.read_write.{is_announced, is_reading}
use Rattle.lk_locks.specs.invariants.rw_fifo.{AgreesWith, Count}
use Rattle.lk_locks.proofs.Cases.{LockProof, Keeps, waits}
use Rattle.std.proofs.lemmas.List.{nil_from_length}
use Rattle.lk_locks.proofs.Words.{no_round, plus_one-lt, plus_one_plus}
use Rattle.lk_locks.proofs.Threads.{this_is}
use Rattle.lk_locks.proofs.invariants.HolderLists.{flag_none, flag_some, no_holders}
use Rattle.lk_locks.proofs.invariants.HolderLists.{no_writer_beside, readers_few}
use Rattle.lk_locks.proofs.invariants.ReadWriteMoves.{below_64, calls, downgrades, joins, leaves}
use Rattle.lk_locks.proofs.invariants.ReadWriteMoves.{unwrites, writes, announces}
use Rattle.lk_locks.specs.Types.{Announced, Acted, RwFifo, Call, Step, Phase, AwaitReaders, Idle}
use Rattle.lk_locks.specs.Types.{LeaveRead, LeaveWrite, TryDowngrade, TryRead, TryWrite, WriteLock}

-- if as many readers left as came, nobody reads
none_read : (bits : ℕ) (ws : List ℕ) (ps : List Phase) (q : Sequential)
    → AgreesWith bits ws ps q → slice_index ws 0 ≡ slice_index ws 1 → q.readers ≡ []
none_read bits ws ps q agreed counts_equal =
    let few : length q.readers < 2 ^ bits =
    omega (arith, readers_few agreed.holders, agreed.narrow) in
    nil_from_length q.readers (elim (eqb_tells (length q.readers) 0) [
      | inl (_, no_readers) ↦ no_readers
      | inr (_, some_readers) ↦
          absurd (no_round (2 ^ bits) (slice_index ws 1) (length q.readers) agreed.count.left
          (omega arith) few (sym agreed.count.came ∙ counts_equal))
    ])

-- one reader more came
one_came : (bits : ℕ) (ws : List ℕ) (n : ℕ) → 3 ≤ length ws → Count bits ws n
    → Count bits (with_one_more bits ws 0) (n + 1)
one_came bits ws n three_words counted =
    let left_stays : slice_index (with_one_more bits ws 0) 1 ≡ slice_index ws 1 =
    get_or-set_other ws 0 1 _ 0 (omega arith) in
    record {
      left = rw left_stays counted.left;
      came =
          get_or-set_same ws 0 _ 0 (omega arith) ∙ ap (plus_one bits) counted.came
          ∙ mod-add-mod (slice_index ws 1 + n) (2 ^ bits) 1
          ∙ ap (λ sum. sum % 2 ^ bits) (omega (arith, left_stays));
    }

-- one reader left
one_left : (bits : ℕ) (ws : List ℕ) (n : ℕ) → 3 ≤ length ws → Count bits ws (n + 1)
    → Count bits (with_one_more bits ws 1) n
one_left bits ws n three_words counted =
    let left_is : slice_index (with_one_more bits ws 1) 1 ≡ plus_one bits (slice_index ws 1) =
    get_or-set_same ws 1 _ 0 (omega arith) in
    record {
      left = rw left_is (plus_one-lt bits (slice_index ws 1));
      came =
          get_or-set_other ws 1 0 _ 0 (omega arith)
          ∙ cc (counted.came, left_is, plus_one_plus bits (slice_index ws 1) n);
    }

-- the flag is another word than the counts
same_count : (bits : ℕ) (ws : List ℕ) (v n : ℕ) → Count bits ws n → Count bits (set ws 2 v) n
same_count bits ws v n counted =
    let left_stays : slice_index (set ws 2 v) 1 ≡ slice_index ws 1 =
    get_or-set_other ws 2 1 v 0 (omega arith) in
    record {
      left = rw left_stays counted.left;
      came = get_or-set_other ws 2 0 v 0 (omega arith) ∙ rw left_stays counted.came;
    }

-- each move keeps the words and the holders in agreement, and its entries may come
keeps : Keeps RwFifo
keeps bits ws ps q t p (Call op) given = calls given.agrees t given.thread p op given.phase_is
keeps bits ws ps q t TryRead (Step s) given = elim (eqb_tells (slice_index ws 2) 0) [
  | inr (flag_test, _) ↦ rw flag_test (waits given)
  | inl (flag_test, flag_clear) ↦
      rw flag_test
      (joins given.agrees t given.thread given.phase_is flag_clear
      (λ unwritten unannounced unread.
      rw (below_64 given, given.kind_is, unwritten, unannounced, unread))
      (λ n fits counted. one_came bits ws n given.enough counted)
      (get_or-set_other ws 0 2 _ 0 (omega arith)))
]
keeps bits ws ps q t LeaveRead (Step s) given =
    leaves given.agrees t given.thread given.phase_is
    (λ reads. rw (below_64 given, given.kind_is, reads))
    (λ n fits counted. one_left bits ws n given.enough counted)
    (get_or-set_other ws 1 2 _ 0 (omega arith))
keeps bits ws ps q t TryWrite (Step s) given = elim (eqb_tells (slice_index ws 2) 0) [
  | inr (flag_test, _) ↦ rw flag_test (waits given)
  | inl (flag_test, flag_clear) ↦
      let (unwritten, unannounced) =
      flag_none q.writer q.announced (sym given.agrees.flag_is ∙ flag_clear) in
      let unread = given.agrees.holders.reading t ∙ ap is_reading given.phase_is in
      let may_announce : is_allowed q (Announced t) ≡ true =
      rw (below_64 given, given.kind_is, unwritten, unannounced, unread) in
      let flag_set : slice_index (set ws 2 1) 2 ≡ 1 =
      get_or-set_same ws 2 1 0 (omega (arith, given.enough)) in
      elim (eqb_tells (slice_index ws 0) (slice_index ws 1)) [
        | inr (counts_test, _) ↦ rw (flag_test, counts_test) (
          (may_announce, tt),
          rw may_announce
              (announces given.agrees t given.thread given.phase_is unwritten unannounced
              (λ n counted. same_count bits ws 1 n counted) flag_set),
        )
        | inl (counts_test, counts_equal) ↦
            let none = none_read bits ws ps q given.agrees counts_equal in
            let may_write :
            is_allowed (after_act q (Announced t)) (Acted t WriteLock) ≡ true =
            rw (below_64 given, given.kind_is, none, eq-eqb t t refl) in
            rw (flag_test, counts_test, may_announce, may_write) (
              (refl, (refl, (tt, tt))),
              writes given.agrees t given.thread none unwritten (λ u other. rw unannounced refl)
                  (λ n counted. same_count bits ws 1 n counted) flag_set,
            )
      ]
]
keeps bits ws ps q t AwaitReaders (Step s) given =
    elim (eqb_tells (slice_index ws 0) (slice_index ws 1)) [
      | inr (counts_test, _) ↦ rw counts_test (waits given)
      | inl (counts_test, counts_equal) ↦
          let announced = given.agrees.holders.awaiting t ∙ ap is_announced given.phase_is in
          let is_it : q.announced ≡ Some t = this_is q.announced t announced in
          let none = none_read bits ws ps q given.agrees counts_equal in
          let may_write : is_allowed q (Acted t WriteLock) ≡ true =
          rw (below_64 given, given.kind_is, announced, none) in
          rw counts_test (
            (may_write, (tt, tt)),
            rw may_write
                (writes given.agrees t given.thread none
                (no_writer_beside q.writer q.readers q.announced t given.agrees.holders.alone
                announced)
                (λ u other. rw is_it (ne_eqb u t other)) (λ n counted. counted)
                (given.agrees.flag_is ∙ rw is_it (flag_some q.writer t))),
          )
    ]
keeps bits ws ps q t LeaveWrite (Step s) given =
    unwrites given.agrees t given.thread given.phase_is
    (λ written. rw (below_64 given, given.kind_is, written))
    (λ n counted. same_count bits ws 0 n counted)
    (get_or-set_same ws 2 0 0 (omega (arith, given.enough)))
keeps bits ws ps q t TryDowngrade (Step s) given =
    downgrades given.agrees t given.thread given.phase_is
    (λ written. rw (below_64 given, given.kind_is, written))
    (λ n fits counted.
    same_count bits (with_one_more bits ws 0) 0 (n + 1) (one_came bits ws n given.enough counted))
    (get_or-set_same (with_one_more bits ws 0) 2 0 0
    (omega (arith, given.enough, length-set ws 0 (plus_one bits (slice_index ws 0)))))
keeps bits ws ps q t p (Step s) given = cc

-- at the start the words are clear and all threads idle
starts : (bits : ℕ) (ws : List ℕ) (n : ℕ) → n < 2 ^ bits → ((i : ℕ) → slice_index ws i ≡ 0)
    → AgreeAs RwFifo (start RwFifo bits ws n) (nobody RwFifo)
starts bits ws n threads_fit clear = record {
  narrow = rw (length-replicate n Idle) threads_fit;
  count = record {
    left = rw (clear 1) (pow_pos bits);
    came = cc (clear 0, clear 1, mod-eq_of_lt (pow_pos bits));
  };
  flag_is = clear 2;
  holders = no_holders RwFifo n;
}

-- all that the other proofs use of the FIFO read-write lock; most of it is found from its table,
-- by cases
pub proof : LockProof RwFifo
proof = record {
  goes_on = λ bits t ws p. grind (arith, common_steps);
  begins = λ n t p op fits own not_refused. search rules;
  owed_is_own = λ t p. search rules;
  idle_rest = λ t. refl;
  keeps_length = λ bits t ws p. search (rules, length-set);
  idle_fits = λ n. refl;
  call_fits = λ n p op fits. search rules;
  step_fits = λ n bits t ws p in_lock fits links. search rules;
  clear_links = λ n ws clear. tt;
  links_fit = λ n bits t ws p in_lock links. tt;
  starts = starts;
  keeps = keeps;
}
