use Rattle.std.proofs.Common.{Some, ap, sym, ◌∙◌}
use Rattle.lk_page.proofs.Touching.{fits_byte, own_of}
use Rattle.lk_page.proofs.changes.touches.Goals as goal

pub changes-requires-clause-first : goal.changes-requires-clause-first
changes-requires-clause-first c =
    let told = (rw c.in-Some-Monitor.field-0-is at c.in-Some-Monitor.ensures.tells).0 in
    fits_byte c.args.machine.now.words _ c.in-Some-Monitor.section.first
    (rw (← c.words.ensures.words, ← c.as_slice-words.ensures.words) c.as_slice-words.ensures.few)
    told.first_is

pub changes-requires-clause-second : goal.changes-requires-clause-second
changes-requires-clause-second c =
    let told = (rw c.in-Some-Monitor.field-0-is at c.in-Some-Monitor.ensures.tells).0 in
    fits_byte c.args.machine.now.words _ c.in-Some-Monitor.section.second
    (rw (← c.words.ensures.words, ← c.as_slice-words.ensures.words) c.as_slice-words.ensures.few)
    told.second_is

pub returns-in-Some-Monitor-clause-touched : goal.returns-in-Some-Monitor-clause-touched
returns-in-Some-Monitor-clause-touched c =
    let told = (rw c.in-Some-Monitor.field-0-is at c.in-Some-Monitor.ensures.tells).0 in
    rw c.in_default.is (c.changes.ensures.touched _ _ told)

pub returns-in-Some-Monitor-clause-own : goal.returns-in-Some-Monitor-clause-own
returns-in-Some-Monitor-clause-own c =
    let told = (rw c.in-Some-Monitor.field-0-is at c.in-Some-Monitor.ensures.tells).0 in
    own_of c.args.machine.now c.args.thread c.args.action c.in-Some-Monitor.section _ _ _
    (sym c.effect.ensures.value ∙ c.in-Some-Monitor.is ∙ ap Some c.in-Some-Monitor.field-0-is)
    (c.changes.ensures.changed _ _ told)
