use Rattle.std.proofs.Common.{rules}
use Rattle.lk_locks.proofs.OneOperation.{effect_tells}
use Rattle.lk_locks.proofs.locks.effect_of.Goals as goal

pub returns-in_ok-operation-in-Ticket-clause-tells :
    goal.returns-in_ok-operation-in-Ticket-clause-tells
returns-in_ok-operation-in-Ticket-clause-tells c =
    rw c.effect-effect.ensures
    (effect_tells c.args.kind c.requires.threads c.args.words.now.1 c.args.words.now.0 c.args.thread
    c.args.phase c.in_ok-operation-in-Ticket.field-0 c.after.result.1 (search rules)
    c.requires.thread c.requires.phase_fits c.requires.enough (search rules))

pub returns-in_ok-operation-in-Mcs-clause-tells : goal.returns-in_ok-operation-in-Mcs-clause-tells
returns-in_ok-operation-in-Mcs-clause-tells c =
    rw c.effect-effect-in-Mcs.ensures
    (effect_tells c.args.kind c.requires.threads c.args.words.now.1 c.args.words.now.0 c.args.thread
    c.args.phase c.in_ok-operation-in-Mcs.field-0 c.after-in-Mcs.result.1 (search rules)
    c.requires.thread c.requires.phase_fits c.requires.enough (search rules))

pub returns-in_ok-step_due-in-RwSimple-clause-value :
    goal.returns-in_ok-step_due-in-RwSimple-clause-value
returns-in_ok-step_due-in-RwSimple-clause-value c =
    search (rules, c.effect.ensures.value c.args.thread)

pub returns-in_ok-step_due-in-RwSimple-clause-tells :
    goal.returns-in_ok-step_due-in-RwSimple-clause-tells
returns-in_ok-step_due-in-RwSimple-clause-tells c =
    search (rules, c.effect.ensures.value c.args.thread, c.effect.ensures.tells c.args.thread)
