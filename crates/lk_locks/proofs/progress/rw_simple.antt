-- The simple read-write lock: who holds it can go on, and if nobody does, whoever tries to enter.
use Rattle.std.proofs.Common.{List, ap, arith, inl, inr, length, refl, slice_index}
use Rattle.std.proofs.Common.{true, IsTrue, ℕ, ◌<◌, ◌∙◌, ◌≡◌, ◌≢◌}
use Rattle.std.proofs.lemmas.Bool.Decides.{eqb_tells}
use Rattle.lk_locks.specs.{Progress.CanFinish, State.phase_at, Sequential.Sequential}
use Rattle.lk_locks.specs.invariants.rw_simple.{AgreesWith, is_phase}
use Rattle.lk_locks.specs.Types.{RwSimple, Phase, AwaitReaders, Idle, LeaveRead, LeaveWrite}
use Rattle.lk_locks.specs.Types.{Reading, TryDowngrade, TryRead, TryWrite, Writing, ReadUnlock}
use Rattle.lk_locks.specs.Types.{WriteUnlock, Section}
use Rattle.lk_locks.proofs.progress.Going.{SomeoneCan, by_call, by_step, in_lock, state_of}
use Rattle.lk_locks.proofs.progress.Holders.{flag_set, is_holding, some_reads}

holder : (bits : ℕ) (ws : List ℕ) (ps : List Phase) (t : ℕ) (p : Phase) → phase_at ps t ≡ p
    → is_holding p ≡ true → CanFinish (state_of RwSimple bits ws ps)
holder bits ws ps t Reading was holds = by_call t was (λ same. cc) ReadUnlock refl refl
holder bits ws ps t LeaveRead was holds = by_step t was (λ same. cc) Section refl refl
holder bits ws ps t Writing was holds = by_call t was (λ same. cc) WriteUnlock refl refl
holder bits ws ps t LeaveWrite was holds = by_step t was (λ same. cc) Section refl refl
holder bits ws ps t TryDowngrade was holds = by_step t was (λ same. cc) Section refl refl
holder bits ws ps t p was holds = cc

-- no writer announces itself
none_announced : (p : Phase) → p ≡ AwaitReaders → IsTrue (is_phase p) → ⊥
none_announced p awaits fits = grind arith

holds_else : (p : Phase) → IsTrue (is_phase p) → p ≢ Idle → p ≢ TryRead → p ≢ TryWrite
    → is_holding p ≡ true
holds_else p fits busy not_read not_write = grind arith

module _ (bits : ℕ) (ws : List ℕ) (ps : List Phase) (q : Sequential)
    (fits : (t : ℕ) → t < length ps → IsTrue (is_phase (phase_at ps t)))
    (agreed : AgreesWith bits ws ps q) where
  -- while the flag is set, the writer
  flagged : slice_index ws 1 ≢ 0 → CanFinish (state_of RwSimple bits ws ps)
  flagged set =
      flag_set (state_of RwSimple bits ws ps) q agreed.holders
      (λ t holds. holder bits ws ps t (phase_at ps t) refl holds)
      (λ t awaits. absurd (none_announced (phase_at ps t) awaits
      (fits t (in_lock ps t (λ idle. cc)))))
      (λ clear. set (agreed.flag_is ∙ clear))

  -- while the count is not 0, a reader
  counted : slice_index ws 0 ≢ 0 → CanFinish (state_of RwSimple bits ws ps)
  counted some =
      some_reads (state_of RwSimple bits ws ps) q.readers agreed.holders.reading
      (λ t holds. holder bits ws ps t (phase_at ps t) refl holds)
      (λ none. some (agreed.count ∙ ap length none))

pub someone : SomeoneCan RwSimple
someone bits ws ps q t TryRead well agreed was busy = elim (eqb_tells (slice_index ws 1) 0) [
  | inl (test, _) ↦ by_step t was busy Section refl (rw test refl)
  | inr (_, set) ↦ flagged bits ws ps q well.phases_fit agreed set
]
someone bits ws ps q t TryWrite well agreed was busy = elim (eqb_tells (slice_index ws 1) 0) [
  | inr (_, set) ↦ flagged bits ws ps q well.phases_fit agreed set
  | inl (flag_test, _) ↦ elim (eqb_tells (slice_index ws 0) 0) [
    | inl (count_test, _) ↦ by_step t was busy Section refl (rw (count_test, flag_test) refl)
    | inr (_, some) ↦ counted bits ws ps q well.phases_fit agreed some
  ]
]
someone bits ws ps q t p well agreed was busy =
    holder bits ws ps t p was
    (holds_else p (rw was at (well.phases_fit t (in_lock ps t (rw was busy)))) busy (λ same. cc)
    (λ same. cc))
