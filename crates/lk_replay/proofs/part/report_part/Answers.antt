-- The printed lines are the report of the text.
use Rattle.std.proofs.Common.{◌≡◌, ◌∙◌, [], List, Ok, ap, length, refl, rules, ℕ}
use Rattle.lk_locks.specs.State.{Shape}
use Rattle.lk_replay.specs.Part.{part_size, with_part}
use Rattle.lk_replay.specs.Printing.{printed_text, printing_of}
use Rattle.lk_replay.specs.Report.{report_text}
use Rattle.lk_replay.specs.Schedule.{Plan, plan_of}
use Rattle.lk_replay.specs.declared.schedule.Line.{Line}
use Rattle.lk_replay.proofs.LastLines.{report_is}
use Rattle.lk_replay.proofs.Parts.{no_part}
use Rattle.lk_replay.proofs.Printed.{replay_printed}
use Rattle.lk_replay.proofs.part.report_part.Goals as goal

is_report : (text : List ℕ) (shape : Shape) (moves : List Line)
    → plan_of text ≡ Ok (record { shape = shape; moves = moves })
    → printed_text (printing_of shape) moves ≡ report_text text
is_report text shape moves is =
    let plan : Plan = record { shape = shape; moves = moves } in
    replay_printed plan _ _ _ _ refl refl refl refl ∙ report_is text plan is

pub returns-clause-size : goal.returns-clause-size
returns-clause-size c =
    c.print_part.ensures.size
    ∙ ap (part_size (length c.args.room.now) c.args.skip)
    (is_report c.args.text.now _ _ c.in-Ok.ensures.read)

pub returns-clause-part : goal.returns-clause-part
returns-clause-part c =
    c.print_part.ensures.part
    ∙ ap (with_part c.args.room.now c.args.skip)
    (is_report c.args.text.now _ _ c.in-Ok.ensures.read)

pub returns-in-Err-clause-part : goal.returns-in-Err-clause-part
returns-in-Err-clause-part c =
    c.add_bytes.ensures c.args.room.now [] refl (no_part c.args.room.now c.args.skip)
    ∙ ap (with_part c.args.room.now c.args.skip)
    (c.as_slice-bytes.ensures ∙ c.in-Ok-fault_text.ensures.line c.args.text.now (search rules))
