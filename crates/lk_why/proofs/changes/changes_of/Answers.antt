use Rattle.std.proofs.Common.{arith, refl}
use Rattle.lk_locks.specs.declared.kinds.Phase.TheVariants as phase
use Rattle.lk_why.proofs.changes.changes_of.Goals as goal

pub returns-in-Ticket : goal.returns-in-Ticket
returns-in-Ticket c = rw c.in-Ticket.is (
  (phase.TakeTicket, refl, refl),
  (
    (phase.TakeTicket, refl, refl),
    (
      (phase.AwaitTurn 0, refl, refl),
      (
        (phase.ReadServing 0, refl, refl),
        (
          (phase.PassOn 0, refl, refl),
          tt,
        ),
      ),
    ),
  ),
)

pub returns-in-Mcs : goal.returns-in-Mcs
returns-in-Mcs c = rw c.in-Mcs.is (
  (phase.ClearNext, refl, refl),
  (
    (phase.ClearNext, refl, refl),
    (
      (phase.SwapTail, refl, refl),
      (
        (phase.SwapTail, refl, refl),
        (
          (phase.SetLocked 0, omega arith, refl),
          (
            (phase.SetLocked 0, omega arith, refl),
            (
              (phase.LinkTo 0, omega arith, refl),
              (
                (phase.AwaitGrant, refl, refl),
                (
                  (phase.ReadNext, refl, refl),
                  (
                    (phase.CasTail, refl, refl),
                    (
                      (phase.CasTail, refl, refl),
                      (
                        (phase.CasTail, refl, refl),
                        (
                          (phase.CasTail, refl, refl),
                          (
                            (phase.AwaitLink, refl, refl),
                            (
                              (phase.Grant 0, omega arith, refl),
                              tt,
                            ),
                          ),
                        ),
                      ),
                    ),
                  ),
                ),
              ),
            ),
          ),
        ),
      ),
    ),
  ),
)

pub returns-in-RwSimple : goal.returns-in-RwSimple
returns-in-RwSimple c = rw c.in-RwSimple.is (
  (phase.TryRead, refl, refl),
  (
    (phase.TryRead, refl, refl),
    (
      (phase.LeaveRead, refl, refl),
      (
        (phase.TryWrite, refl, refl),
        (
          (phase.TryWrite, refl, refl),
          (
            (phase.TryWrite, refl, refl),
            (
              (phase.LeaveWrite, refl, refl),
              (
                (phase.TryDowngrade, refl, refl),
                (
                  (phase.TryDowngrade, refl, refl),
                  tt,
                ),
              ),
            ),
          ),
        ),
      ),
    ),
  ),
)

pub returns-in-RwFifo : goal.returns-in-RwFifo
returns-in-RwFifo c = rw c.in-RwFifo.is (
  (phase.TryRead, refl, refl),
  (
    (phase.TryRead, refl, refl),
    (
      (phase.LeaveRead, refl, refl),
      (
        (phase.TryWrite, refl, refl),
        (
          (phase.TryWrite, refl, refl),
          (
            (phase.TryWrite, refl, refl),
            (
              (phase.TryWrite, refl, refl),
              (
                (phase.AwaitReaders, refl, refl),
                (
                  (phase.LeaveWrite, refl, refl),
                  (
                    (phase.TryDowngrade, refl, refl),
                    (
                      (phase.TryDowngrade, refl, refl),
                      tt,
                    ),
                  ),
                ),
              ),
            ),
          ),
        ),
      ),
    ),
  ),
)
