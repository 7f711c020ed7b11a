-- The sentence is filled from the beginning of a text.
use Rattle.lk_text.proofs.Said.{said_from}
use Rattle.lk_text.proofs.report.Notes.say_in.Goals as goal

pub returns : goal.returns
returns c = λ whole.
    said_from _ _ _ _ _ c.text-text.result c.fill.new.self c.text-text.ensures c.fill.ensures
    (c.put_in.ensures whole)
