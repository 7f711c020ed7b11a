-- The FIFO read-write lock: who holds it can go on, or the announced writer if no reader is inside;
-- and if the flag is clear, whoever tries to enter.
use Rattle.std.proofs.Common.{List, add-zero, ap, arith, false, inl, inr, length, refl}
use Rattle.std.proofs.Common.{slice_index, true, IsTrue, ℕ, ◌+◌, ◌%◌, ◌^◌, ◌==◌, ◌∙◌, ◌≡◌, ◌≢◌}
use Rattle.std.proofs.{Math.Nat.mod-eq_of_lt, lemmas.Bool.Decides.eqb_tells}
use Rattle.lk_locks.specs.{Progress.CanFinish, Progress.is_wait, State.phase_at}
use Rattle.lk_locks.specs.{Locks.step_of, Sequential.Sequential}
use Rattle.lk_locks.specs.invariants.rw_fifo.{AgreesWith, is_phase}
use Rattle.lk_locks.specs.Types.{RwFifo, Phase, AwaitReaders, Idle, LeaveRead, LeaveWrite}
use Rattle.lk_locks.specs.Types.{Reading, TryDowngrade, TryRead, TryWrite, Writing, ReadUnlock}
use Rattle.lk_locks.specs.Types.{WriteUnlock, Section}
use Rattle.lk_locks.proofs.progress.Going.{SomeoneCan, by_call, by_step, in_lock, state_of}
use Rattle.lk_locks.proofs.progress.Holders.{flag_set, is_holding, some_reads}

holder : (bits : ℕ) (ws : List ℕ) (ps : List Phase) (t : ℕ) (p : Phase) → phase_at ps t ≡ p
    → is_holding p ≡ true → CanFinish (state_of RwFifo bits ws ps)
holder bits ws ps t Reading was holds = by_call t was (λ same. cc) ReadUnlock refl refl
holder bits ws ps t LeaveRead was holds = by_step t was (λ same. cc) Section refl refl
holder bits ws ps t Writing was holds = by_call t was (λ same. cc) WriteUnlock refl refl
holder bits ws ps t LeaveWrite was holds = by_step t was (λ same. cc) Section refl refl
holder bits ws ps t TryDowngrade was holds = by_step t was (λ same. cc) Section refl refl
holder bits ws ps t p was holds = cc

-- while the flag is clear, a writer enters, or announces itself
clear_flag : (bits : ℕ) (ws : List ℕ) (t : ℕ) → (slice_index ws 2 == 0) ≡ true
    → is_wait (step_of RwFifo bits ws t TryWrite).outcome ≡ false
clear_flag bits ws t clear = grind arith

holds_else : (p : Phase) → IsTrue (is_phase p) → p ≢ Idle → p ≢ TryRead → p ≢ TryWrite
    → p ≢ AwaitReaders → is_holding p ≡ true
holds_else p fits busy not_read not_write not_announced = grind arith

module _ (bits : ℕ) (ws : List ℕ) (ps : List Phase) (q : Sequential)
    (agreed : AgreesWith bits ws ps q) where
  -- an announced writer enters, or a reader is inside
  announced : (t : ℕ) → phase_at ps t ≡ AwaitReaders → CanFinish (state_of RwFifo bits ws ps)
  announced t was = elim (eqb_tells (slice_index ws 0) (slice_index ws 1)) [
    | inl (test, _) ↦ by_step t was (λ same. cc) Section refl (rw test refl)
    | inr (_, differ) ↦
        some_reads (state_of RwFifo bits ws ps) q.readers agreed.holders.reading
        (λ t holds. holder bits ws ps t (phase_at ps t) refl holds)
        (λ none. differ
        (agreed.count.came ∙ ap (λ rs. (slice_index ws 1 + length rs) % 2 ^ bits) none
        ∙ cc (add-zero (slice_index ws 1), mod-eq_of_lt agreed.count.left)))
  ]

  -- while the flag is set, the writer or the announced one
  flagged : slice_index ws 2 ≢ 0 → CanFinish (state_of RwFifo bits ws ps)
  flagged set =
      flag_set (state_of RwFifo bits ws ps) q agreed.holders
      (λ t holds. holder bits ws ps t (phase_at ps t) refl holds) announced
      (λ clear. set (agreed.flag_is ∙ clear))

pub someone : SomeoneCan RwFifo
someone bits ws ps q t TryRead well agreed was busy = elim (eqb_tells (slice_index ws 2) 0) [
  | inl (test, _) ↦ by_step t was busy Section refl (rw test refl)
  | inr (_, set) ↦ flagged bits ws ps q agreed set
]
someone bits ws ps q t TryWrite well agreed was busy = elim (eqb_tells (slice_index ws 2) 0) [
  | inl (test, _) ↦ by_step t was busy Section refl (clear_flag bits ws t test)
  | inr (_, set) ↦ flagged bits ws ps q agreed set
]
someone bits ws ps q t AwaitReaders well agreed was busy = announced bits ws ps q agreed t was
someone bits ws ps q t p well agreed was busy =
    holder bits ws ps t p was
    (holds_else p (rw was at (well.phases_fit t (in_lock ps t (rw was busy)))) busy (λ same. cc)
    (λ same. cc) (λ same. cc))
