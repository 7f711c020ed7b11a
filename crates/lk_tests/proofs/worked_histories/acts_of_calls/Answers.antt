use Rattle.std.proofs.Common.{◌≡◌, [], ◌∷◌, refl}
use Rattle.lk_tests.specs.WorkedHistories.{handover, writers_in_turn}
use Rattle.lk_locks.proofs.CallLaws.{calls_act_once, acts_are_called}
use Rattle.lk_locks.proofs.Places.{one_of}
use Rattle.lk_tests.proofs.WorkedHistories.{mcs_legal, simple_legal, not_of_one, not_of_two}
use Rattle.lk_tests.proofs.WorkedHistories.{since_call, nothing_done}
use Rattle.lk_locks.specs.declared.kinds.LockKind.TheVariants.{Mcs, RwSimple}
use Rattle.lk_locks.specs.declared.kinds.Op.TheVariants.{Acquire, WriteLock}
use Rattle.lk_locks.specs.declared.kinds.Entry.TheVariants.{Called, Announced, Acted, Returned}
use Rattle.lk_tests.proofs.worked_histories.acts_of_calls.Goals as goal

pub returns-clause-once : goal.returns-clause-once
returns-clause-once c = calls_act_once Mcs 2 handover mcs_legal

pub returns-clause-never : goal.returns-clause-never
returns-clause-never c = λ h.
    let s : [] ≡ Acted 0 Acquire ∷ [] =
    since_call 0 Acquire (Acted 0 Acquire ∷ []) [] (λ a. one_of _ [] a) (h 0 Acquire
    (Called 0 Acquire ∷ []) [] refl) in
    cc

pub returns-clause-twice : goal.returns-clause-twice
returns-clause-twice c = λ h.
    let s : Acted 0 Acquire ∷ Acted 0 Acquire ∷ [] ≡ Acted 0 Acquire ∷ [] =
    since_call 0 Acquire (Acted 0 Acquire ∷ []) (Acted 0 Acquire ∷ Acted 0 Acquire ∷ [])
    (not_of_two (λ x. x ≡ Called 0 Acquire) (Acted 0 Acquire) (Acted 0 Acquire) (λ e. cc) (λ e. cc))
    (h 0 Acquire (Called 0 Acquire ∷ Acted 0 Acquire ∷ Acted 0 Acquire ∷ []) [] refl) in
    cc

pub returns-clause-simple : goal.returns-clause-simple
returns-clause-simple c = calls_act_once RwSimple 2 writers_in_turn simple_legal

pub returns-clause-unannounced : goal.returns-clause-unannounced
returns-clause-unannounced c = λ h.
    let s : Acted 0 WriteLock ∷ [] ≡ Announced 0 ∷ Acted 0 WriteLock ∷ [] =
    since_call 0 WriteLock (Announced 0 ∷ Acted 0 WriteLock ∷ []) (Acted 0 WriteLock ∷ [])
    (not_of_one (λ x. x ≡ Called 0 WriteLock) (Acted 0 WriteLock) (λ e. cc))
    (h 0 WriteLock (Called 0 WriteLock ∷ Acted 0 WriteLock ∷ []) [] refl) in
    cc

pub returns-clause-called : goal.returns-clause-called
returns-clause-called c = acts_are_called Mcs 2 handover mcs_legal

pub returns-clause-not_called : goal.returns-clause-not_called
returns-clause-not_called c = λ h. nothing_done 0 Acquire [] (h 0 Acquire [] [] refl).0

pub returns-clause-acts_next : goal.returns-clause-acts_next
returns-clause-acts_next c = λ h.
    let r : Acted 0 Acquire ≡ Returned 0 Acquire =
    (h 0 Acquire (Called 0 Acquire ∷ []) (Acted 0 Acquire ∷ Returned 0 Acquire ∷ []) refl).1 in
    cc
