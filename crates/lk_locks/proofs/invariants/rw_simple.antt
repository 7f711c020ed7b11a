-- The simple read-write lock: each section adds the next entries of its call, and each move
-- preserves that the count and the flag agree with the holders.
use Rattle.std.proofs.Common.{List, ap, arith, inl, inr, length, refl, rules, slice_index, sym}
use Rattle.std.proofs.Common.{true, ℕ, ◌%◌, ◌+◌, ◌-◌, ◌<◌, ◌^◌, ◌∙◌, ◌≡◌, ◌≤◌}
use Rattle.std.proofs.{Math.Nat.add-mod_right, Math.Nat.mod-eq_of_lt, lemmas.Bool.Decides.eqb_tells}
use Rattle.std.proofs.lemmas.List.{get_or-set_other, get_or-set_same, length-set, length-replicate}
use Rattle.lk_locks.specs.Change.{plus_one, with_one_less, with_one_more}
use Rattle.lk_locks.specs.Sequential.{nobody, is_allowed}
use Rattle.lk_locks.specs.{State.start, invariants.Locks.AgreeAs, invariants.rw_simple.Count}
use Rattle.lk_locks.proofs.Cases.{LockProof, Keeps, waits}
use Rattle.std.proofs.lemmas.List.{nil_from_length}
use Rattle.lk_locks.proofs.invariants.HolderLists.{flag_none, no_holders}
use Rattle.lk_locks.proofs.invariants.ReadWriteMoves.{below_64, calls, downgrades, joins, leaves}
use Rattle.lk_locks.proofs.invariants.ReadWriteMoves.{unwrites, writes}
use Rattle.lk_locks.specs.Types.{RwSimple, Call, Step, Idle, LeaveRead, LeaveWrite, TryDowngrade}
use Rattle.lk_locks.specs.Types.{TryRead, TryWrite, Acted, WriteLock}

-- one more, and then one less, is the same count if the word does not wrap
less : (bits count : ℕ) → count + 1 < 2 ^ bits
    → (count + 1 + (2 ^ bits - 1)) % 2 ^ bits ≡ count
less bits count in_word =
    let around : count + 1 + (2 ^ bits - 1) ≡ count + 2 ^ bits = omega arith in
    let below : count < 2 ^ bits = omega arith in
    ap (λ sum. sum % 2 ^ bits) around ∙ add-mod_right count (2 ^ bits) ∙ mod-eq_of_lt below

-- one more reader is counted, if the count does not wrap
one_more : (bits : ℕ) (ws : List ℕ) (n : ℕ) → 2 ≤ length ws → n + 1 < 2 ^ bits → Count ws n
    → Count (with_one_more bits ws 0) (n + 1)
one_more bits ws n two_words in_word counted =
    get_or-set_same ws 0 _ 0 (omega arith) ∙ ap (plus_one bits) counted ∙ mod-eq_of_lt in_word

-- one fewer is counted
one_fewer : (bits : ℕ) (ws : List ℕ) (n : ℕ) → 2 ≤ length ws → n + 1 < 2 ^ bits
    → Count ws (n + 1) → Count (with_one_less bits ws 0) n
one_fewer bits ws n two_words in_word counted =
    get_or-set_same ws 0 _ 0 (omega arith)
    ∙ ap (λ count. (count + (2 ^ bits - 1)) % 2 ^ bits) counted ∙ less bits n in_word

-- each move keeps the words and the holders in agreement, and its entries may come
keeps : Keeps RwSimple
keeps bits ws ps q t p (Call op) given = calls given.agrees t given.thread p op given.phase_is
keeps bits ws ps q t TryRead (Step s) given = elim (eqb_tells (slice_index ws 1) 0) [
  | inr (flag_test, _) ↦ rw flag_test (waits given)
  | inl (flag_test, flag_clear) ↦
      rw flag_test
      (joins given.agrees t given.thread given.phase_is flag_clear
      (λ unwritten unannounced unread. rw (below_64 given, given.kind_is, unwritten, unread))
      (λ n fits counted.
      one_more bits ws n given.enough (omega (arith, given.agrees.narrow)) counted)
      (get_or-set_other ws 0 1 _ 0 (omega arith)))
]
keeps bits ws ps q t LeaveRead (Step s) given =
    leaves given.agrees t given.thread given.phase_is
    (λ reads. rw (below_64 given, given.kind_is, reads))
    (λ n fits counted.
    one_fewer bits ws n given.enough (omega (arith, given.agrees.narrow)) counted)
    (get_or-set_other ws 0 1 _ 0 (omega arith))
keeps bits ws ps q t TryWrite (Step s) given = elim (eqb_tells (slice_index ws 0) 0) [
  | inr (count_test, _) ↦ rw count_test (waits given)
  | inl (count_test, count_zero) ↦ elim (eqb_tells (slice_index ws 1) 0) [
    | inr (flag_test, _) ↦ rw (count_test, flag_test) (waits given)
    | inl (flag_test, flag_clear) ↦
        let (unwritten, unannounced) =
        flag_none q.writer q.announced (sym given.agrees.flag_is ∙ flag_clear) in
        let unread = nil_from_length q.readers (sym given.agrees.count ∙ count_zero) in
        let may_write : is_allowed q (Acted t WriteLock) ≡ true =
        rw (below_64 given, given.kind_is, unwritten, unread) in
        rw (count_test, flag_test) (
          (may_write, (tt, tt)),
          rw may_write
              (writes given.agrees t given.thread unread unwritten (λ u other. rw unannounced refl)
              (λ n counted. get_or-set_other ws 1 0 1 0 (omega arith) ∙ counted)
              (get_or-set_same ws 1 1 0 (omega (arith, given.enough)))),
        )
  ]
]
keeps bits ws ps q t LeaveWrite (Step s) given =
    unwrites given.agrees t given.thread given.phase_is
    (λ written. rw (below_64 given, given.kind_is, written))
    (λ n counted. get_or-set_other ws 1 0 0 0 (omega arith) ∙ counted)
    (get_or-set_same ws 1 0 0 (omega (arith, given.enough)))
keeps bits ws ps q t TryDowngrade (Step s) given =
    downgrades given.agrees t given.thread given.phase_is
    (λ written. rw (below_64 given, given.kind_is, written))
    (λ n fits counted.
    get_or-set_other (with_one_more bits ws 0) 1 0 0 0 (omega arith)
    ∙ one_more bits ws n given.enough (omega (arith, given.agrees.narrow)) counted)
    (get_or-set_same (with_one_more bits ws 0) 1 0 0
    (omega (arith, given.enough, length-set ws 0 (plus_one bits (slice_index ws 0)))))
keeps bits ws ps q t p (Step s) given = cc

-- at the start the words are clear and all threads idle
starts : (bits : ℕ) (ws : List ℕ) (n : ℕ) → n < 2 ^ bits → ((i : ℕ) → slice_index ws i ≡ 0)
    → AgreeAs RwSimple (start RwSimple bits ws n) (nobody RwSimple)
starts bits ws n threads_fit clear = record {
  narrow = rw (length-replicate n Idle) threads_fit;
  count = clear 0;
  flag_is = clear 1;
  holders = no_holders RwSimple n;
}

-- all that the other proofs use of the simple read-write lock; most of it is found from its
-- table, by cases
pub proof : LockProof RwSimple
proof = record {
  goes_on = λ bits t ws p. search rules;
  begins = λ n t p op fits own not_refused. search rules;
  owed_is_own = λ t p. search rules;
  idle_rest = λ t. refl;
  keeps_length = λ bits t ws p. search (rules, length-set);
  idle_fits = λ n. refl;
  call_fits = λ n p op fits. search rules;
  step_fits = λ n bits t ws p in_lock fits links. search rules;
  clear_links = λ n ws clear. tt;
  links_fit = λ n bits t ws p in_lock links. tt;
  starts = starts;
  keeps = keeps;
}
