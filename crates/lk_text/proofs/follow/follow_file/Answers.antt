-- The ending of the file or of standard input.
use Rattle.lk_text.specs.Sources.{left_in}
use Rattle.lk_text.proofs.Endings.{input_followed}
use Rattle.lk_text.proofs.follow.follow_file.Goals as goal

pub returns-in-Ok : goal.returns-in-Ok
returns-in-Ok g c =
    input_followed (left_in g.R.File.Read.remaining g.R.Reader.Read.remaining) c.in-Ok.input
    c.follow_input.result c.follow_input.ensures
