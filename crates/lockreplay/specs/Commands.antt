-- Invariants: the command that the parser is given, in the parser's own terms. The parts of the
-- command are carried to the parse; no public contract rests on them.
use Rattle.std.specs.Prelude.{◌+◌, Some, None, [], ◌∷◌, List, ℕ, codes, true, pos}
use Rattle.clap.specs.Words.{App, Row, Rule, Text, new_app, new_rule, with_rule, with_subcommand}
use Rattle.clap.specs.Lexer.{usize_max}
use Rattle.clap.specs.declared.builder.action.ArgAction.TheVariants.{Set, Append}
use Rattle.clap.specs.declared.builder.value_parser.ValueParser.TheVariants as vp
use Rattle.clap.specs.Values.{reading_of}
use Rattle.clap.specs.declared.parser.matches.ValueSource.TheVariants.{CommandLine}

-- `--workers N`, required, with N from 1 to 8
abbrev pub workers_rule : Rule
workers_rule = record (new_rule (codes "workers")) {
  long = Some (codes "workers");
  value_names = 1;
  required = true;
  action = Some Set;
  parser = Some (vp.Signed (pos 1) (pos 8));
}

-- `FILE...`, required
abbrev pub files_rule : Rule
files_rule = record (new_rule (codes "files")) {
  value_names = 1;
  required = true;
  range = Some (record { start_inclusive = 1; end_inclusive = usize_max });
  action = Some Append;
}

abbrev pub batch_app : App
batch_app = with_rule (with_rule (new_app (codes "batch")) workers_rule) files_rule

abbrev pub bare_app : App
bare_app = let app = new_app (codes "lockreplay") in
    record app { top = record app.top { no_binary_name = true; subcommand_required = true } }

abbrev pub program_app : App
program_app =
    with_subcommand (with_subcommand bare_app (new_app (codes "replay")).top) batch_app.top

-- the digit of `--workers`
abbrev pub digit : ℕ → Text
digit workers = (48 + workers) ∷ []

abbrev pub workers_row : ℕ → Row
workers_row workers = record {
  id = codes "workers";
  values = digit workers ∷ [];
  count = None;
  source = Some CommandLine;
  reading = reading_of (vp.Signed (pos 1) (pos 8));
}

abbrev pub files_row : List Text → Row
files_row files = record {
  id = codes "files";
  values = files;
  count = None;
  source = Some CommandLine;
  reading = reading_of vp.String;
}

-- the rows that the parser finds in a plain batch line
abbrev pub batch_rows : ℕ → List Text → List Row
batch_rows workers files = workers_row workers ∷ files_row files ∷ []
