-- The parser reads a plain batch line: the arguments after `batch` go to it, the digit to
-- `--workers`, and each argument after it to the files.
use Rattle.std.proofs.Common.{◌≡◌, ◌∙◌, ℕ, ◌+◌, ◌<◌, true, false, List, [], ◌∷◌, ◌++◌, length}
use Rattle.std.proofs.Common.{Option, Some, None, codes, refl, sym, ap, arith, not, append_assoc}
use Rattle.std.proofs.Common.{append-nil, inl, inr}
use Rattle.std.proofs.lemmas.Bool.{not-true}
use Rattle.std.proofs.lemmas.Bool.Decides.{eqb_tells}
use Rattle.std.specs.Prelude.{fold, ◌==◌}
use Rattle.std.specs.List.{list_all}
use Rattle.std.specs.Str.{bytes_eq}
use Rattle.clap.specs.Lexer.{long_of, short_of}
use Rattle.clap.specs.Words.{Row, Rule, Shape, Text, built, subcommand_of}
use Rattle.clap.specs.Takes.{turn_passes}
use Rattle.clap.specs.Walk.{Waiting, Walk, positional, idle, option, walk, walked, walk_from}
use Rattle.clap.specs.Walk.{nothing_held, rows_after, finished}
use Rattle.clap.proofs.WalkLemmas.{both, walk_stopped}
use Rattle.clap.proofs.OnLiterals.{clap_on_literals}
use Rattle.lockreplay.specs.Commands.{batch_app, batch_rows, digit, program_app, workers_row}
use Rattle.lockreplay.specs.CommandLines.{batch_line, is_plain}
use Rattle.clap.specs.Simple.{built_leaf, inherited, entered, names_of}

-- `batch`, once it is built
abbrev pub batch_shape : Shape
batch_shape = built_leaf (inherited (built program_app).top batch_app.top)

abbrev pub batch_rules : List Rule
batch_rules = batch_shape.rules

-- a plain word is no option, and not the two hyphens that end the options
pub no_option : (word : Text) → is_plain word ≡ true
    → (bytes_eq word (45 ∷ 45 ∷ []) ≡ false) × (long_of word ≡ None) × (short_of word ≡ None)
no_option [] plain = (refl, refl, refl)
no_option (b ∷ rest) plain = rw (not-true (b == 45) plain) (refl, refl, refl)

-- where files are taken, after the digit or after a file
abbrev pub walk_with : Waiting → List Row → Option (Text × List Text) → Walk
walk_with waiting rows pending = record {
  held = record { rows = rows; pending = pending; skip = 0 };
  waiting = waiting;
  position = 1;
  is_trailing = false;
  stopped = None;
}

abbrev pub files_after : List Row → List Text → Walk
files_after rows seen = walk_with positional rows (Some (codes "files", seen))

-- a plain word is one more file, and its turn passes
pub one_more : (rows : List Row) (seen : List Text) (file : Text) → is_plain file ≡ true
    → (walked batch_rules [] (files_after rows seen) file ≡ files_after rows (seen ++ file ∷ []))
    × (turn_passes batch_shape [] (files_after rows seen) file ≡ true)
unfolding clap_on_literals
one_more rows seen file plain = let (dashes, long, short) = no_option file plain in
    rw (dashes, long, short) (refl, refl)

pub all_more : (rows : List Row) (seen files : List Text) → list_all is_plain files ≡ true
    → fold (walked batch_rules []) (files_after rows seen) files ≡ files_after rows (seen ++ files)
all_more rows seen [] plain = ap (files_after rows) (sym (append-nil seen))
all_more rows seen (file ∷ files) plain =
    let each = both (is_plain file) (list_all is_plain files) plain in
    ap (λ w. fold (walked batch_rules []) w files) (one_more rows seen file each.0).0
    ∙ all_more rows (seen ++ file ∷ []) files each.1
    ∙ ap (files_after rows) (append_assoc seen (file ∷ []) files)

pub plain_digit : (workers : ℕ) → is_plain (digit workers) ≡ true
plain_digit workers = elim (eqb_tells (48 + workers) 45) [
  | inl same ↦ absurd (omega (arith, same.1))
  | inr other ↦ ap not other.0
]

-- `--workers` waits for its digit
abbrev pub wants_digit : Walk
wants_digit = walk_with (option (codes "workers")) [] (Some (codes "workers", []))

-- the digit is there
abbrev pub has_digit : ℕ → Walk
has_digit workers = walk_with idle [] (Some (codes "workers", digit workers ∷ []))

pub meets_option :
    (walked batch_rules [] (walk_from nothing_held) (codes "--workers") ≡ wants_digit)
    × (turn_passes batch_shape [] (walk_from nothing_held) (codes "--workers") ≡ true)
unfolding clap_on_literals
meets_option = (refl, refl)

pub meets_digit : (workers : ℕ)
    → (walked batch_rules [] wants_digit (digit workers) ≡ has_digit workers)
    × (turn_passes batch_shape [] wants_digit (digit workers) ≡ true)
unfolding clap_on_literals
meets_digit workers =
    let (dashes, long, short) = no_option (digit workers) (plain_digit workers) in
    rw (dashes, long, short) (refl, refl)

pub meets_file : (workers : ℕ) (file : Text) → is_plain file ≡ true
    → walked batch_rules [] (has_digit workers) file
    ≡ files_after (workers_row workers ∷ []) (file ∷ [])
unfolding clap_on_literals
meets_file workers file plain = let (dashes, long, short) = no_option file plain in
    rw (dashes, long, short) refl

-- the walk over the words after `batch`
pub batch_walk : (workers : ℕ) (file : Text) (files : List Text)
    → list_all is_plain (file ∷ files) ≡ true
    → walk batch_rules [] nothing_held (codes "--workers" ∷ digit workers ∷ file ∷ files)
    ≡ files_after (workers_row workers ∷ []) (file ∷ files)
batch_walk workers file files plain =
    let each = both (is_plain file) (list_all is_plain files) plain in
    let go = fold (walked batch_rules []) in
    ap (λ w. go w (digit workers ∷ file ∷ files)) meets_option.0
    ∙ ap (λ w. go w (file ∷ files)) (meets_digit workers).0
    ∙ ap (λ w. go w files) (meets_file workers file each.0)
    ∙ all_more (workers_row workers ∷ []) (file ∷ []) files each.1

pub batch_ends : (workers : ℕ) (file : Text) (files : List Text)
    → finished batch_rules (files_after (workers_row workers ∷ []) (file ∷ files)).held
    ≡ batch_rows workers (file ∷ files)
unfolding clap_on_literals
batch_ends workers file files = refl

-- the walk over the whole line stops at `batch`
pub stops : (rest : List Text)
    → ◌≡◌ {A = Walk} (record (walk_from nothing_held) { stopped = Some (codes "batch", rest) })
    (walk (built program_app).top.rules (names_of (built program_app)) nothing_held
    (codes "batch" ∷ rest))
unfolding clap_on_literals
stops rest =
    walk_stopped (built program_app).top.rules (names_of (built program_app))
    (walk_from nothing_held) (codes "batch") [] rest

enters : (rest : List Text)
    → entered (built program_app) (Some (codes "batch", rest))
    ≡ Some (codes "batch", rows_after batch_rules [] rest)
unfolding clap_on_literals
enters rest = refl

pub batch_found : (workers : ℕ) (files : List Text) → 0 < length files
    → list_all is_plain files ≡ true
    → subcommand_of program_app (batch_line workers files)
    ≡ Some (codes "batch", batch_rows workers files)
batch_found workers [] some plain = absurd (omega (arith, some))
batch_found workers (file ∷ files) some plain =
    let rest = codes "--workers" ∷ digit workers ∷ file ∷ files in
    ap (λ (w : Walk). entered (built program_app) w.stopped) (sym (stops rest)) ∙ enters rest
    ∙ ap (λ (w : Walk). Some (codes "batch", finished batch_rules w.held))
    (batch_walk workers file files plain)
    ∙ ap (λ rows. Some (codes "batch", rows)) (batch_ends workers file files)
