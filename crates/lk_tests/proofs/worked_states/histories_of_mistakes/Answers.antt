use Rattle.std.proofs.Common.{[], ◌∷◌, refl, rules}
use Rattle.lk_locks.specs.declared.kinds.Entry.TheVariants.{Acted, Returned}
use Rattle.lk_locks.specs.declared.kinds.LockKind.TheVariants.{Ticket, Mcs, RwSimple, RwFifo}
use Rattle.lk_locks.specs.declared.kinds.Op.TheVariants.{Acquire, Release, ReadLock, ReadUnlock}
use Rattle.lk_locks.specs.declared.kinds.Op.TheVariants.{WriteLock}
use Rattle.lk_locks.proofs.Runs.{promised_of}
use Rattle.lk_tests.specs.WorkedHistories.{left_free}
use Rattle.lk_tests.specs.WorkedStates.{announced_left, read_left}
use Rattle.lk_tests.proofs.WorkedHistories.{two_threads}
use Rattle.lk_tests.proofs.worked_states.histories_of_mistakes.Goals as goal

pub returns-clause-ticket : goal.returns-clause-ticket
returns-clause-ticket c =
    promised_of Ticket 2 left_free (record {
      allowed = (tt, (refl, (refl, (tt, (refl, (tt, (refl, (tt, tt))))))));
      well_formed = two_threads _ (Acquire ∷ Release ∷ [], [], refl)
          (Acquire ∷ [], Returned 1 Acquire ∷ [], refl);
      no_others = search rules;
    })

pub returns-clause-mcs : goal.returns-clause-mcs
returns-clause-mcs c =
    promised_of Mcs 2 left_free (record {
      allowed = (tt, (refl, (refl, (tt, (refl, (tt, (refl, (tt, tt))))))));
      well_formed = two_threads _ (Acquire ∷ Release ∷ [], [], refl)
          (Acquire ∷ [], Returned 1 Acquire ∷ [], refl);
      no_others = search rules;
    })

pub returns-clause-simple : goal.returns-clause-simple
returns-clause-simple c =
    promised_of RwSimple 2 read_left (record {
      allowed = (tt, (refl, (tt, (tt, (refl, (tt, (tt, tt)))))));
      well_formed = two_threads _ (ReadLock ∷ ReadUnlock ∷ [], [], refl)
          (WriteLock ∷ [], Acted 1 WriteLock ∷ Returned 1 WriteLock ∷ [], refl);
      no_others = search rules;
    })

pub returns-clause-fifo : goal.returns-clause-fifo
returns-clause-fifo c =
    promised_of RwFifo 2 announced_left (record {
      allowed = (tt, (refl, (tt, (tt, (refl, (tt, (refl, (tt, tt))))))));
      well_formed = two_threads _ (ReadLock ∷ ReadUnlock ∷ [], [], refl)
          (WriteLock ∷ [], Acted 1 WriteLock ∷ Returned 1 WriteLock ∷ [], refl);
      no_others = search rules;
    })
