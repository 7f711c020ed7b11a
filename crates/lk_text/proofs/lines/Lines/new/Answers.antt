-- Nothing was read ahead.
use Rattle.lk_text.proofs.Taken.{keeps_new}
use Rattle.lk_text.proofs.lines.Lines.new.Goals as goal

pub returns : goal.returns
returns g c = keeps_new (g.R.Read.remaining c.args.input)
