-- One text is read for each file that was gone over.
use Rattle.std.proofs.Common.{◌≡◌, length}
use Rattle.lockreplay.proofs.jobs.file_texts.Given as goal

abbrev pub invariant-loop-place : goal.invariant-loop-place
invariant-loop-place g l = length l.texts.items ≡ l.place
