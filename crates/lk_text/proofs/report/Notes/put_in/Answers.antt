-- The note that was added says it.
use Rattle.std.proofs.Common.{refl}
use Rattle.lk_text.proofs.report.Notes.put_in.Goals as goal

pub returns-in-Ok : goal.returns-in-Ok
returns-in-Ok c = λ whole. record {
  note = _;
  more = c.push.ensures whole;
  file_is = c.in-Ok.ensures.ok;
  line_is = refl;
  text_is = refl;
}
