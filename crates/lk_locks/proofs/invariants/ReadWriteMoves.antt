-- Each move of a read-write lock preserves that count and flag agree with the holders, whatever
-- words the lock counts in.
use Rattle.std.proofs.Common.{List, None, [], ap, arith, length, refl, set, sym, true, false, ℕ}
use Rattle.std.proofs.Common.{nat_lt, unwrap_or, ◌+◌, ◌<◌, ◌∙◌, ◌≡◌, ◌≢◌, ◌∷◌}
use Rattle.std.proofs.{lemmas.Bool.lt-ltb, lemmas.List.length-set}
use Rattle.lk_locks.specs.{Change.acts, invariants.Threads.is_this, read_write.after_call}
use Rattle.lk_locks.specs.{State.phase_at, declared.kinds.Entry.TheVariants.Called}
use Rattle.lk_locks.specs.Sequential.{Sequential, after_act, has, is_allowed, without_reader}
use Rattle.lk_locks.specs.invariants.read_write.{AgreeAsCounted, is_announced, is_reading, flag_of}
use Rattle.lk_locks.specs.invariants.read_write.{is_writing, AreHolders}
use Rattle.lk_locks.proofs.Cases.{IsAgreed, IsTaken}
use Rattle.lk_locks.proofs.invariants.HolderLists.{length_with_reader, length_without_reader}
use Rattle.lk_locks.proofs.invariants.HolderLists.{holders_downgrade, readers_few, holders_announce}
use Rattle.lk_locks.proofs.invariants.HolderLists.{holders_frame, holders_unwrite, none_announced}
use Rattle.lk_locks.proofs.invariants.HolderLists.{holders_join, holders_leave, holders_write}
use Rattle.lk_locks.proofs.invariants.HolderLists.{flag_none, no_writer, readers_fit, flag_some}
use Rattle.lk_locks.specs.Types.{ReadUnlock, WriteUnlock, LeaveWrite, TryDowngrade, AwaitReaders}
use Rattle.lk_locks.specs.Types.{Announced, LockKind, Op, Downgrade, ReadLock, WriteLock, LeaveRead}
use Rattle.lk_locks.specs.Types.{Acted, Move, Phase, Idle, Reading, TryRead, TryWrite, Writing}

-- a thread of the lock has a number below 64
pub below_64 : {kind : LockKind} {bits : ℕ} {ws : List ℕ} {ps : List Phase} {q : Sequential}
    {t : ℕ} {p : Phase} {m : Move} → IsTaken kind bits ws ps q t p m → nat_lt t 64 ≡ true
below_64 {t} given = lt-ltb t 64 (omega arith)

module _ {Count : ℕ → Type 0} {flag bits : ℕ} {ps : List Phase} {q : Sequential}
    (agreed : AgreeAsCounted Count flag bits ps q) (t : ℕ) (in_lock : t < length ps) where
  -- words that count in some way, and have this flag, agree with new holders
  count_agrees : {next : ℕ} (New : ℕ → Type 0) (p : Phase) (r : Sequential) → New (length r.readers)
      → next ≡ flag_of r.writer r.announced → AreHolders (set ps t p) r
      → AgreeAsCounted New next bits (set ps t p) r
  count_agrees New p r count flag_is holders = record {
    narrow = rw (length-set ps t p) agreed.narrow;
    count = count;
    flag_is = flag_is;
    holders = holders;
  }

  -- a call changes a phase and nothing else
  call_agrees : (p next : Phase) (op : Op) → phase_at ps t ≡ p → is_reading p ≡ is_reading next
      → is_writing p ≡ is_writing next → is_announced p ≡ is_announced next
      → IsAgreed (AgreeAsCounted Count flag bits (set ps t next)) q (Called t op ∷ [])
  call_agrees p next op was same_reading same_writing same_announced = (
    (tt, tt),
    count_agrees Count next q agreed.count agreed.flag_is
        (holders_frame agreed.holders t in_lock next (ap is_reading was ∙ same_reading)
        (ap is_writing was ∙ same_writing) (ap is_announced was ∙ same_announced)),
  )

  -- each call
  pub calls : (p : Phase) (op : Op) → phase_at ps t ≡ p
      → IsAgreed (AgreeAsCounted Count flag bits (set ps t (unwrap_or (after_call p op) p))) q
      (Called t op ∷ [])
  calls Idle ReadLock was = call_agrees Idle TryRead ReadLock was refl refl refl
  calls Idle WriteLock was = call_agrees Idle TryWrite WriteLock was refl refl refl
  calls Reading ReadUnlock was = call_agrees Reading LeaveRead ReadUnlock was refl refl refl
  calls Writing WriteUnlock was = call_agrees Writing LeaveWrite WriteUnlock was refl refl refl
  calls Writing Downgrade was = call_agrees Writing TryDowngrade Downgrade was refl refl refl
  calls p op was = call_agrees p p op was refl refl refl

  -- A thread becomes a reader, since the flag is clear. The words count one more.
  pub joins : {More : ℕ → Type 0} {next : ℕ} → phase_at ps t ≡ TryRead → flag ≡ 0
      → (q.writer ≡ None → q.announced ≡ None → has q.readers t ≡ false
      → is_allowed q (Acted t ReadLock) ≡ true)
      → ((n : ℕ) → n < length ps → Count n → More (n + 1)) → next ≡ flag
      → IsAgreed (AgreeAsCounted More next bits (set ps t Reading)) q (acts t ReadLock)
  joins {More} was flag_clear may_act one_more flag_stays =
      let (unwritten, unannounced) =
      flag_none q.writer q.announced (sym agreed.flag_is ∙ flag_clear) in
      let unread = agreed.holders.reading t ∙ ap is_reading was in
      let allowed = may_act unwritten unannounced unread in (
        (allowed, (tt, tt)),
        rw allowed
            (count_agrees More Reading (after_act q (Acted t ReadLock))
            (rw (length_with_reader q.readers t)
            (one_more (length q.readers) (readers_fit agreed.holders t in_lock unread)
            agreed.count))
            (flag_stays ∙ agreed.flag_is) (holders_join agreed.holders t in_lock was unwritten)),
      )

  -- a reader leaves, and the words count one fewer
  pub leaves : {Fewer : ℕ → Type 0} {next : ℕ} → phase_at ps t ≡ LeaveRead
      → (has q.readers t ≡ true → is_allowed q (Acted t ReadUnlock) ≡ true)
      → ((n : ℕ) → n < length ps → Count (n + 1) → Fewer n) → next ≡ flag
      → IsAgreed (AgreeAsCounted Fewer next bits (set ps t Idle)) q (acts t ReadUnlock)
  leaves {Fewer} was may_act one_fewer flag_stays =
      let reads = agreed.holders.reading t ∙ ap is_reading was in
      let fewer : length (without_reader q.readers t) + 1 ≡ length q.readers =
      length_without_reader q.readers t reads in (
        (may_act reads, (tt, tt)),
        rw (may_act reads)
            (count_agrees Fewer Idle (after_act q (Acted t ReadUnlock))
            (one_fewer (length (without_reader q.readers t))
            (omega (arith, readers_few agreed.holders)) (rw fewer agreed.count))
            (flag_stays ∙ agreed.flag_is)
            (holders_leave agreed.holders t in_lock was
            (no_writer q.writer q.readers q.announced t agreed.holders.alone reads))),
      )

  -- A thread becomes the writer, since nobody reads or writes and no other is announced. The words
  -- count as before, and the flag is set.
  pub writes : {Same : ℕ → Type 0} {next : ℕ} → q.readers ≡ [] → q.writer ≡ None
      → ((u : ℕ) → u ≢ t → is_this q.announced u ≡ false) → ((n : ℕ) → Count n → Same n)
      → next ≡ 1
      → AgreeAsCounted Same next bits (set ps t Writing) (after_act q (Acted t WriteLock))
  writes {Same} unread unwritten no_other same flag_set =
      count_agrees Same Writing (after_act q (Acted t WriteLock)) (same _ agreed.count) flag_set
      (holders_write agreed.holders t in_lock unread unwritten no_other)

  -- A thread announces itself. The words count as before, and the flag is set.
  pub announces : {Same : ℕ → Type 0} {next : ℕ} → phase_at ps t ≡ TryWrite → q.writer ≡ None
      → q.announced ≡ None → ((n : ℕ) → Count n → Same n) → next ≡ 1
      → AgreeAsCounted Same next bits (set ps t AwaitReaders) (after_act q (Announced t))
  announces {Same} was unwritten unannounced same flag_set =
      count_agrees Same AwaitReaders (after_act q (Announced t)) (same _ agreed.count)
      (flag_set ∙ sym (flag_some q.writer t))
      (holders_announce agreed.holders t in_lock was unwritten unannounced)

  -- the writer leaves, and the flag is cleared
  pub unwrites : {Same : ℕ → Type 0} {next : ℕ} → phase_at ps t ≡ LeaveWrite
      → (is_this q.writer t ≡ true → is_allowed q (Acted t WriteUnlock) ≡ true)
      → ((n : ℕ) → Count n → Same n) → next ≡ 0
      → IsAgreed (AgreeAsCounted Same next bits (set ps t Idle)) q (acts t WriteUnlock)
  unwrites {Same} was may_act same cleared =
      let written = agreed.holders.writing t ∙ ap is_writing was in (
        (may_act written, (tt, tt)),
        rw (may_act written)
            (count_agrees Same Idle (after_act q (Acted t WriteUnlock)) (same _ agreed.count)
            (rw (none_announced q.writer q.readers q.announced t agreed.holders.alone written)
            cleared)
            (holders_unwrite agreed.holders t in_lock was written)),
      )

  -- the writer becomes a reader: the words count one more, and the flag is cleared
  pub downgrades : {More : ℕ → Type 0} {next : ℕ} → phase_at ps t ≡ TryDowngrade
      → (is_this q.writer t ≡ true → is_allowed q (Acted t Downgrade) ≡ true)
      → ((n : ℕ) → n < length ps → Count n → More (n + 1)) → next ≡ 0
      → IsAgreed (AgreeAsCounted More next bits (set ps t Reading)) q (acts t Downgrade)
  downgrades {More} was may_act one_more cleared =
      let written = agreed.holders.writing t ∙ ap is_writing was in
      let unread = agreed.holders.reading t ∙ ap is_reading was in (
        (may_act written, (tt, tt)),
        rw (may_act written)
            (count_agrees More Reading (after_act q (Acted t Downgrade))
            (rw (length_with_reader q.readers t)
            (one_more (length q.readers) (readers_fit agreed.holders t in_lock unread)
            agreed.count))
            (rw (none_announced q.writer q.readers q.announced t agreed.holders.alone written)
            cleared)
            (holders_downgrade agreed.holders t in_lock was written)),
      )
