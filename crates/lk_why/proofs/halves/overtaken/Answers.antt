use Rattle.lk_why.proofs.Ready.{phase_kept}
use Rattle.lk_why.proofs.halves.overtaken.Goals as goal

pub step_on-made-requires-clause-phase : goal.step_on-made-requires-clause-phase
step_on-made-requires-clause-phase c =
    rw c.step_on-write.ensures.phase
    (phase_kept c.args.shape c.args.words.now c.args.t c.args.phase c.requires.words
    c.requires.phase c.requires.thread)
