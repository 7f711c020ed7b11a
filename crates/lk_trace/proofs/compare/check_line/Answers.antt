use Rattle.std.proofs.Common.{refl, rules, sym, ◌∙◌}
use Rattle.lk_trace.specs.Checks.{on}
use Rattle.lk_trace.proofs.Agreeing.{agreeing}
use Rattle.lk_trace.proofs.compare.check_line.Goals as goal

pub returns-in-Some-clause-differs : goal.returns-in-Some-clause-differs
returns-in-Some-clause-differs c = search rules

pub returns-in-None-clause-none : goal.returns-in-None-clause-none
returns-in-None-clause-none c = search rules

pub returns-in-Some-clause-agrees : goal.returns-in-Some-clause-agrees
returns-in-Some-clause-agrees c =
    let both = agreeing (on c.args.machine.now c.args.sections) c.args.line
    (λ accepted. rw c.made_of-made.ensures.value at c.made_of-made.ensures.within) in
    (λ no. cc, λ agrees. let none = sym (returns-in-Some-clause-differs c) ∙ both.1 agrees in cc)

pub returns-in-None-clause-agrees : goal.returns-in-None-clause-agrees
returns-in-None-clause-agrees c =
    let both = agreeing (on c.args.machine.now c.args.sections) c.args.line
    (λ accepted. rw c.made_of-made.ensures.value at c.made_of-made.ensures.within) in
    (λ ok. both.0 (returns-in-None-clause-none c), λ agrees. refl)
