use Rattle.std.proofs.Common.{◌≡◌, [], ◌∷◌, refl}
use Rattle.std.proofs.lemmas.Bool.{false≢true}
use Rattle.lk_tests.specs.WorkedHistories.{handover}
use Rattle.lk_locks.proofs.QueueOrder.{holders_are_apart}
use Rattle.lk_tests.proofs.WorkedHistories.{ticket_legal, not_of_two}
use Rattle.lk_locks.specs.declared.kinds.LockKind.TheVariants.{Ticket}
use Rattle.lk_locks.specs.declared.kinds.Op.TheVariants.{Acquire, Release}
use Rattle.lk_locks.specs.declared.kinds.Entry.TheVariants.{Called, Acted}
use Rattle.lk_tests.proofs.worked_histories.holders_of_queue_locks.Goals as goal

pub returns-clause-apart : goal.returns-clause-apart
returns-clause-apart c = holders_are_apart Ticket 2 handover ticket_legal

pub returns-clause-beside : goal.returns-clause-beside
returns-clause-beside c = λ t u h.
    not_of_two (λ e. e ≡ Acted t Release) (Called u Acquire) (Acted u Acquire) (λ e. cc) (λ e. cc)
    (h t u (Called t Acquire ∷ Acted t Acquire ∷ [])
    (Called u Acquire ∷ Acted u Acquire ∷ []) [] refl)

pub returns-clause-overtakes : goal.returns-clause-overtakes
returns-clause-overtakes c = λ h. false≢true (h 1 refl)
