-- The lines of the moves so far.
use Rattle.std.proofs.Common.{take}
use Rattle.std.specs.List.{flat_map}
use Rattle.lk_text.specs.Texts.{Adds}
use Rattle.lk_jobs.specs.Written.{move_line}
use Rattle.lk_jobs.proofs.run.put_moves.Given as goal

abbrev pub invariant-loop-taken : goal.invariant-loop-taken
invariant-loop-taken l =
    Adds (flat_map move_line (take l.taken-index l.run)) l.initial.text l.text
