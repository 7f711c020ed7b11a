-- The FIFO read-write lock: while a writer is announced, the readers inside leave, and each thread
-- calls for the lock once more and then polls.
use Rattle.std.proofs.Common.{◌≡◌, ◌≢◌, ℕ, ◌+◌, ◌≤◌, true, slice_index, List, None, Some, ap, arith}
use Rattle.std.proofs.Common.{inl, inr, length, refl, ◌∙◌}
use Rattle.std.proofs.lemmas.Bool.{ne_eqb}
use Rattle.std.proofs.lemmas.Bool.Decides.{eqb_tells}
use Rattle.lk_locks.specs.{Starvation.IsInQueue, Starvation.IsStarvationFree, State.phase_at}
use Rattle.lk_locks.specs.{Sequential.Sequential}
use Rattle.lk_locks.specs.invariants.read_write.{is_announced, is_writing}
use Rattle.lk_locks.specs.invariants.rw_fifo.{AgreesWith, is_phase}
use Rattle.lk_locks.specs.invariants.Threads.{is_this}
use Rattle.lk_locks.proofs.Threads.{this_is}
use Rattle.lk_locks.proofs.starvation.Waiting.{starvation_free}
use Rattle.lk_locks.proofs.starvation.Totals.{total_but_one}
use Rattle.lk_locks.proofs.invariants.HolderLists.{flag_some, no_writer_beside}
use Rattle.lk_locks.proofs.starvation.Lowering.{AreFew, IsLower, Left, Lowers, cost, not_after}
use Rattle.lk_locks.specs.Types.{RwFifo, Call, Step, AwaitReaders, Idle, LeaveRead, Outcome, Phase}
use Rattle.lk_locks.specs.Types.{Reading, TryRead, TryWrite, Writing, ReadLock, ReadUnlock}
use Rattle.lk_locks.specs.Types.{WriteLock}

-- a reader calls and leaves; then, as each other thread, it calls for the lock
abbrev until_polls : Phase → ℕ
until_polls Reading = 3
until_polls LeaveRead = 2
until_polls Idle = 1
until_polls p = 0

abbrev moves_left : Left
moves_left ahead p = until_polls p

-- a thread that waits in the queue has announced itself
announces : (p : Phase) → is_phase p ≡ true → IsInQueue p → is_announced p ≡ true
announces p fits waits = grind arith

-- beside an announced writer nobody writes, and the flag is set
record IsAnnounced (flag : ℕ) (q : Sequential) (t : ℕ) : Type 0 where
  announced : q.announced ≡ Some t
  unwritten : q.writer ≡ None
  flag_set : flag ≡ 1

announced_of : {bits : ℕ} {ws : List ℕ} {ps : List Phase} {q : Sequential}
    → AgreesWith bits ws ps q → (t : ℕ) → is_phase (phase_at ps t) ≡ true
    → IsInQueue (phase_at ps t) → IsAnnounced (slice_index ws 2) q t
announced_of {ps} {q} agreed t fits waits =
    let is : is_this q.announced t ≡ true =
    agreed.holders.awaiting t ∙ announces (phase_at ps t) fits waits in
    record {
      announced = this_is q.announced t is;
      unwritten =
          no_writer_beside q.writer q.readers q.announced t agreed.holders.alone is;
      flag_set = agreed.flag_is ∙ rw (this_is q.announced t is) (flag_some q.writer t);
    }

-- a move of a thread that has this many moves left, wherever it is
lower : (before after : List ℕ) {t u : ℕ} {p next : Phase} {outcome : Outcome}
    → until_polls next + cost outcome ≤ until_polls p
    → IsLower moves_left before after t u p next outcome
lower before after fewer = record { others = λ v r differs. refl; own = fewer }

-- each move but a failed poll lowers the moves that are left
lowers : Lowers RwFifo moves_left
lowers bits ws ps q t u Idle (Call ReadLock) given passed = lower _ _ (omega arith)
lowers bits ws ps q t u Idle (Call WriteLock) given passed = lower _ _ (omega arith)
lowers bits ws ps q t u Reading (Call ReadUnlock) given passed = lower _ _ (omega arith)
lowers bits ws ps q t u TryRead (Step s) given passed =
    let is = announced_of given.agrees t passed.fits passed.waits in
    rw (ne_eqb (slice_index ws 2) 0 (λ clear. omega (arith, clear, is.flag_set)))
    (lower _ _ (omega arith))
lowers bits ws ps q t u LeaveRead (Step s) given passed = lower _ _ (omega arith)
lowers bits ws ps q t u TryWrite (Step s) given passed =
    let is = announced_of given.agrees t passed.fits passed.waits in
    rw (ne_eqb (slice_index ws 2) 0 (λ clear. omega (arith, clear, is.flag_set)))
    (lower _ _ (omega arith))
lowers bits ws ps q t u AwaitReaders (Step s) given passed =
    elim (eqb_tells (slice_index ws 0) (slice_index ws 1)) [
      | inr (test, _) ↦ rw test (lower _ _ (omega arith))
      | inl (test, _) ↦
          let is = announced_of given.agrees t passed.fits passed.waits in
          let same : q.announced ≡ Some u =
          this_is q.announced u
          (given.agrees.holders.awaiting u ∙ ap is_announced given.phase_is) in
          let differs : u ≢ t =
          not_after ps t u Writing given.thread (λ waits. waits) (rw test at passed.waits_on) in
          absurd (differs (cc))
    ]
lowers bits ws ps q t u p m given passed =
    let is = announced_of given.agrees t passed.fits passed.waits in
    let writes : is_this q.writer u ≡ is_writing p =
    given.agrees.holders.writing u ∙ ap is_writing given.phase_is in
    cc

-- a thread has at most three moves left
at_most : (p : Phase) → until_polls p ≤ 3
at_most p = grind arith

-- an announced writer has none
none_left : (p : Phase) → is_phase p ≡ true → IsInQueue p → until_polls p ≡ 0
none_left p fits waits = grind arith

few : AreFew RwFifo moves_left 3
few bits ws ps q t in_lock agreed fits waits =
    omega (
      arith,
      total_but_one _ (length ps) 3 t (λ v. at_most (phase_at ps v)) in_lock,
      none_left (phase_at ps t) fits waits,
    )

pub free : IsStarvationFree RwFifo 3
free = starvation_free RwFifo moves_left 3 lowers few
