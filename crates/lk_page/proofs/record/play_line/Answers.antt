use Rattle.std.proofs.Common.{ap, sym, ◌∙◌}
use Rattle.lk_locks.specs.State.{State, phase_at}
use Rattle.lk_locks.specs.Locks.{step_due}
use Rattle.lk_locks.specs.Steps.{refused_with}
use Rattle.lk_page.specs.Next.{allowed_calls, waits_after}
use Rattle.lk_page.proofs.Records.{is_told}
use Rattle.lk_page.proofs.record.play_line.Goals as goal

pub returns-clause-record : goal.returns-clause-record
returns-clause-record c = λ es h.
    let accepted = sym (rw c.machine.ensures at c.check.ensures)
    ∙ ap refused_with c.in_ok-check.was in
    is_told c.args.lock.now c.play.new.self es c.args.line.now _ _ _ _ _ _ _ _ _ _ _ h accepted
    c.play.ensures.after c.in_ok-outcome.ensures.outcome
    c.kind_number.ensures c.kind.ensures
    (c.phase-from.ensures
    ∙ ap (λ (s : State). phase_at s.phases c.args.line.now.thread) c.machine-2.ensures)
    (c.phase-after.ensures
    ∙ ap (λ (s : State). phase_at s.phases c.args.line.now.thread) c.machine-4.ensures)
    (c.next_step.ensures
    ∙ ap (λ (s : State). step_due s.kind (phase_at s.phases c.args.line.now.thread))
    c.machine-5.ensures)
    c.standing_of-standing.ensures
    (c.allowed_calls.ensures
    ∙ ap (λ (s : State). allowed_calls s c.args.line.now.thread) c.machine-6.ensures)
    (c.waits_after.ensures
    ∙ ap (λ (s : State). waits_after s c.args.line.now.thread c.in_ok-outcome.outcome
    c.standing_of-standing.result.is_queued) c.machine-7.ensures)
    (rw c.machine-3.ensures at c.touches-first.ensures.touched)
    (rw c.machine-3.ensures at c.touches-first.ensures.own)
