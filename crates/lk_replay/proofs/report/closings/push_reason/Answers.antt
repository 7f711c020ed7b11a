-- The step's word comes after the reason.
use Rattle.std.proofs.Common.{append_assoc, ◌++◌, ◌≡◌, rules}
use Rattle.lk_locks.specs.Refusals.{name_of}
use Rattle.lk_locks.specs.declared.kinds.Refusal.TheVariants.{WrongStep}
use Rattle.lk_replay.specs.Report.{refusal_text}
use Rattle.lk_replay.proofs.report.closings.push_reason.Goals as goal

pub returns-in-WrongStep-clause-reason : goal.returns-in-WrongStep-clause-reason
unfolding refusal_text
returns-in-WrongStep-clause-reason c =
    let named : c.push.new.self ≡ c.args.text.now ++ name_of (WrongStep c.in-WrongStep.next) =
    search rules in
    rw (
      c.push-in-WrongStep-2.ensures,
      c.push-in-WrongStep.ensures,
      named,
      c.as_bytes-in-WrongStep.ensures.value,
      c.move_text.ensures.name,
      c.in-WrongStep.is,
    )
    (simp append_assoc)
