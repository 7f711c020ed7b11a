-- The lines before the rest were skipped.
use Rattle.std.proofs.Common.{◌≡◌, ◌+◌, ◌<◌, ◌^◌, length}
use Rattle.lk_lines.specs.Lines.{SkipsTo, lines_of}
use Rattle.lk_lines.proofs.lines.Lines.next_line.Given as goal

abbrev pub invariant-loop-rest : goal.invariant-loop-rest
invariant-loop-rest l = record {
  skips : SkipsTo l.initial.number (lines_of l.initial.rest) l.number (lines_of l.rest);
  kept : l.self-inside ≡ l.initial.self-inside;
  fits : l.number + length l.rest < 2 ^ 32;
}

abbrev pub decreases-loop-rest : goal.decreases-loop-rest
decreases-loop-rest l = length l.rest
