use Rattle.std.proofs.Common.{◌≡◌, ℕ, List, [], ◌∷◌, ◌++◌, ap, arith, length, refl, inl, inr}
use Rattle.std.proofs.Common.{rules}
use Rattle.lk_tests.specs.WorkedHistories.{writes, reads, unwrites, left_once}
use Rattle.lk_tests.specs.WorkedHistories.{writers_in_turn, announced_entered}
use Rattle.lk_locks.specs.Exclusion.{StopsWriting}
use Rattle.lk_locks.proofs.SharedLaws.{never_two_writers, never_a_writer_beside_a_reader}
use Rattle.lk_locks.proofs.SharedLaws.{announced_writer_goes_first}
use Rattle.lk_tests.proofs.WorkedHistories.{simple_legal, fifo_legal, not_in, not_of_one}
use Rattle.lk_tests.proofs.WorkedHistories.{not_of_two}
use Rattle.lk_locks.specs.declared.kinds.LockKind.TheVariants.{RwSimple}
use Rattle.lk_locks.specs.declared.kinds.Op.TheVariants.{ReadLock, ReadUnlock, WriteLock}
use Rattle.lk_locks.specs.declared.kinds.Op.TheVariants.{WriteUnlock, Downgrade}
use Rattle.lk_locks.specs.declared.kinds.Entry.TheVariants.{Called, Acted, Returned}
use Rattle.lk_tests.proofs.worked_histories.writers_of_read_write_locks.Goals as goal

pub returns-clause-in_turn : goal.returns-clause-in_turn
returns-clause-in_turn c = never_two_writers RwSimple 2 writers_in_turn simple_legal

pub returns-clause-at_once : goal.returns-clause-at_once
returns-clause-at_once c = λ t u h.
    not_of_two (StopsWriting t) (Returned t WriteLock) (Called u WriteLock)
    (λ s. elim s [ inl e ↦ cc | inr e ↦ cc ]) (λ s. elim s [ inl e ↦ cc | inr e ↦ cc ])
    (h t u (Called t WriteLock ∷ []) (Returned t WriteLock ∷ Called u WriteLock ∷ [])
    (Returned u WriteLock ∷ []) refl)

pub returns-clause-alone : goal.returns-clause-alone
returns-clause-alone c = never_a_writer_beside_a_reader RwSimple 2 writers_in_turn simple_legal

pub returns-clause-reader : goal.returns-clause-reader
returns-clause-reader c = λ t u h.
    not_of_two (StopsWriting t) (Returned t WriteLock) (Called u ReadLock)
    (λ s. elim s [ inl e ↦ cc | inr e ↦ cc ]) (λ s. elim s [ inl e ↦ cc | inr e ↦ cc ])
    (h.then_reader t u (Called t WriteLock ∷ []) (Returned t WriteLock ∷ Called u ReadLock ∷ [])
    (Returned u ReadLock ∷ []) refl)

pub returns-clause-another_unlocks : goal.returns-clause-another_unlocks
returns-clause-another_unlocks c = λ h.
    not_in (StopsWriting 0) (Returned 0 WriteLock ∷ unwrites 1 ++ Called 2 ReadLock ∷ [])
    (search rules)
    (h.then_reader 0 2 (Called 0 WriteLock ∷ [])
    (Returned 0 WriteLock ∷ unwrites 1 ++ Called 2 ReadLock ∷ []) (Returned 2 ReadLock ∷ []) refl)

pub returns-clause-writer : goal.returns-clause-writer
returns-clause-writer c = λ t u h.
    not_of_two (λ e. e
    ≡ Acted t ReadUnlock) (Returned t ReadLock) (Called u WriteLock) (λ e. cc) (λ e. cc)
    (h.then_writer t u (Called t ReadLock ∷ []) (Returned t ReadLock ∷ Called u WriteLock ∷ [])
    (Returned u WriteLock ∷ []) refl)

pub returns-clause-downgraded_reader : goal.returns-clause-downgraded_reader
returns-clause-downgraded_reader c = λ t u h.
    not_of_two (λ e. e
    ≡ Acted t ReadUnlock) (Returned t Downgrade) (Called u WriteLock) (λ e. cc) (λ e. cc)
    (h.downgraded_writer t u (writes t ++ Called t Downgrade ∷ [])
    (Returned t Downgrade ∷ Called u WriteLock ∷ []) (Returned u WriteLock ∷ []) refl)

pub returns-clause-first : goal.returns-clause-first
returns-clause-first c = announced_writer_goes_first 2 announced_entered fifo_legal

pub returns-clause-reader_passes : goal.returns-clause-reader_passes
returns-clause-reader_passes c = λ h.
    not_of_one (λ e. e ≡ Acted 1 WriteLock) (Called 2 ReadLock) (λ e. cc)
    (h.then_reader 1 2 (reads 0 ++ Called 1 WriteLock ∷ []) (Called 2 ReadLock ∷ [])
    (Returned 2 ReadLock ∷ []) refl)

pub returns-clause-writer_passes : goal.returns-clause-writer_passes
returns-clause-writer_passes c = λ h.
    not_of_one (λ e. e ≡ Acted 1 WriteLock) (Called 2 WriteLock) (λ e. cc)
    (h.then_announced 1 2 (reads 0 ++ Called 1 WriteLock ∷ []) (Called 2 WriteLock ∷ []) [] refl)

pub returns-clause-another : goal.returns-clause-another
returns-clause-another c =
    not_of_two (StopsWriting 0) (Acted 1 WriteUnlock) (Acted 1 Downgrade)
    (λ s. elim s [ inl e ↦ cc | inr e ↦ cc ]) (λ s. elim s [ inl e ↦ cc | inr e ↦ cc ])

pub returns-clause-reader_stays : goal.returns-clause-reader_stays
returns-clause-reader_stays c = λ h.
    let none : 0 ∷ [] ≡ [] = h.no_reader left_once [] refl 1 refl in
    omega (arith, ap (λ (ts : List ℕ). length ts) none)
