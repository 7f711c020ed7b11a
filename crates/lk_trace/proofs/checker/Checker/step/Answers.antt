use Rattle.std.proofs.Common.{ap, refl}
use Rattle.lk_trace.specs.Checks.{Checked}
use Rattle.lk_trace.proofs.Agreeing.{counted}
use Rattle.lk_trace.proofs.checker.Checker.step.Goals as goal

pub returns-clause-counted : goal.returns-clause-counted
returns-clause-counted c =
    rw (c.count_given-self-inside.ensures, ap (λ (x : Checked). x.sections) c.self.view_is)
    (counted c.args.self.now.sections c.args.line.seen)

pub returns-clause-answer : goal.returns-clause-answer
returns-clause-answer c =
    rw (← c.self.view_is, ← c.machine.ensures, c.in_ok-made.ensures.none, c.in_ok-made.ensures.made)
    refl
