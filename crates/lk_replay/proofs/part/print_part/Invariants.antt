-- The printed lines and those that are left are the report. Their part is in the room.
use Rattle.std.proofs.Common.{◌≡◌, ◌≤◌, ◌*◌, ◌-◌, length}
use Rattle.lk_replay.specs.Schedule.{AreMoves, moves_left}
use Rattle.lk_replay.specs.Printing.{printed_text, printing_of}
use Rattle.lk_replay.proofs.Parts.{IsPrinted}
use Rattle.lk_replay.proofs.part.print_part.Given as goal

abbrev pub invariant-loop-lines : goal.invariant-loop-lines
invariant-loop-lines l = record {
  printed : IsPrinted (printed_text (printing_of l.fn.shape) (moves_left l.initial.lines 0))
      (printed_text l.printer (moves_left l.lines l.printer.count)) l.initial.room l.skip l.at
      l.room;
  whole : AreMoves l.lines l.printer.count;
  few : l.printer.count ≤ 65536;
  bounded : l.at ≤ 448 * l.printer.count;
  same : length l.room ≡ length l.initial.room;
}

abbrev pub decreases-loop-lines : goal.decreases-loop-lines
decreases-loop-lines l = 65536 - l.printer.count
