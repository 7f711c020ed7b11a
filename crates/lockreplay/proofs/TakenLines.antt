-- The parser takes a plain batch line: it fails only if it is out of memory.
use Rattle.std.proofs.Common.{◌≡◌, ◌∙◌, ℕ, ◌<◌, ◌≤◌, Bool, true, false, ◌&&◌, List, [], ◌∷◌, ◌++◌}
use Rattle.std.proofs.Common.{length, Some, codes, refl, sym, ap, ap₂, arith, zero, suc, is_some}
use Rattle.std.proofs.Common.{le-leb}
use Rattle.std.specs.List.{list_all}
use Rattle.clap.specs.Words.{Row, Shape, Text, built, takes}
use Rattle.clap.specs.Lexer.{usize_max}
use Rattle.clap.specs.Simple.{names_of, entered, filled}
use Rattle.clap.specs.Takes.{walk_passes, turn_passes, level_passes, entered_passes, values_pass}
use Rattle.clap.specs.Takes.{value_passes, settle_passes, default_passes, is_valid}
use Rattle.clap.specs.Walk.{Names, Walk, walk, walked, walk_from, nothing_held, finished}
use Rattle.clap.proofs.WalkLemmas.{both}
use Rattle.clap.proofs.OnLiterals.{clap_on_literals}
use Rattle.lockreplay.specs.Commands.{batch_rows, digit, files_rule, program_app, workers_row}
use Rattle.lockreplay.specs.Commands.{workers_rule}
use Rattle.lockreplay.specs.CommandLines.{batch_line, is_plain, replay_line}
use Rattle.lockreplay.proofs.PlainLines.{batch_ends, batch_rules, batch_shape, batch_walk}
use Rattle.lockreplay.proofs.PlainLines.{files_after, has_digit, meets_digit, meets_file}
use Rattle.lockreplay.proofs.PlainLines.{meets_option, no_option, one_more, stops}

-- words after a subcommand are not looked at
stopped_passes : (s : Shape) (names : Names) (w : Walk) (p : Text × List Text) (words : List Text)
    → walk_passes s names (record w { stopped = Some p }) words ≡ true
unfolding clap_on_literals
stopped_passes s names w p [] = refl
stopped_passes s names w p (x ∷ xs) = stopped_passes s names w (p.0, p.1 ++ x ∷ []) xs

strings_pass : (files : List Text) → values_pass (filled files_rule) files ≡ true
strings_pass [] = refl
strings_pass (file ∷ files) = strings_pass files

digit_passes : (workers : ℕ) → 1 ≤ workers → workers ≤ 8
    → value_passes (filled workers_rule) (digit workers) ≡ true
digit_passes zero few many = absurd (omega (arith, few))
digit_passes (suc (suc (suc (suc (suc (suc (suc (suc (suc k))))))))) few many =
    absurd (omega (arith, many))
digit_passes workers few many = refl

first_turn : (workers : ℕ) (file : Text) → 1 ≤ workers → workers ≤ 8 → is_plain file ≡ true
    → turn_passes batch_shape [] (has_digit workers) file ≡ true
unfolding clap_on_literals
first_turn workers file few many plain = let (dashes, long, short) = no_option file plain in
    rw (dashes, long, short, digit_passes workers few many) refl

-- one turn passes, and then the rest
then_rest : (w next : Walk) (word : Text) (words : List Text)
    → (walked batch_rules [] w word ≡ next) × (turn_passes batch_shape [] w word ≡ true)
    → walk_passes batch_shape [] next words ≡ true
    → walk_passes batch_shape [] w (word ∷ words) ≡ true
unfolding walk_passes
then_rest w next word words (step, turn) rest =
    ap₂ (λ (a b : Bool). a && b) turn (ap (λ v. walk_passes batch_shape [] v words) step ∙ rest)

files_turns : (rows : List Row) (seen files : List Text) → list_all is_plain files ≡ true
    → walk_passes batch_shape [] (files_after rows seen) files ≡ true
unfolding walk_passes
files_turns rows seen [] plain = refl
files_turns rows seen (file ∷ files) plain =
    let each = both (is_plain file) (list_all is_plain files) plain in
    then_rest _ _ file files (one_more rows seen file each.0)
    (files_turns rows (seen ++ file ∷ []) files each.1)

batch_turns : (workers : ℕ) (file : Text) (files : List Text) → 1 ≤ workers → workers ≤ 8
    → list_all is_plain (file ∷ files) ≡ true
    → walk_passes batch_shape [] (walk_from nothing_held)
    (codes "--workers" ∷ digit workers ∷ file ∷ files)
    ≡ true
batch_turns workers file files few many plain =
    let each = both (is_plain file) (list_all is_plain files) plain in
    then_rest _ _ (codes "--workers") (digit workers ∷ file ∷ files) meets_option
    (then_rest _ _ (digit workers) (file ∷ files) (meets_digit workers)
    (then_rest _ _ file files
    (meets_file workers file each.0, first_turn workers file few many each.0)
    (files_turns (workers_row workers ∷ []) (file ∷ []) files each.1)))

-- the part after the walk passes too
batch_settles : (workers : ℕ) (file : Text) (files : List Text) → length (file ∷ files) ≤ usize_max
    → (settle_passes batch_rules false (files_after (workers_row workers ∷ []) (file ∷ files)).held
    && (list_all default_passes batch_rules && is_valid batch_shape
    (batch_rows workers (file ∷ files)) false))
    ≡ true
unfolding clap_on_literals
batch_settles workers file files fits =
    let some : 1 ≤ length (file ∷ files) = omega arith in
    rw (le-leb _ _ some, le-leb _ _ fits, strings_pass files) refl

level_taken : (workers : ℕ) (file : Text) (files : List Text) → 1 ≤ workers → workers ≤ 8
    → length (file ∷ files) ≤ usize_max → list_all is_plain (file ∷ files) ≡ true
    → level_passes batch_shape [] nothing_held
    (codes "--workers" ∷ digit workers ∷ file ∷ files) false
    ≡ true
level_taken workers file files few many fits plain =
    let words = codes "--workers" ∷ digit workers ∷ file ∷ files in
    let after : Walk → Bool = λ w. settle_passes batch_rules false w.held && (list_all
    default_passes batch_rules && is_valid batch_shape (finished batch_rules w.held) false) in
    let ends : after (files_after (workers_row workers ∷ []) (file ∷ files)) ≡ true =
    ap (λ rows.
    settle_passes batch_rules false (files_after (workers_row workers ∷ []) (file ∷ files)).held
    && (list_all default_passes batch_rules && is_valid batch_shape rows false))
    (batch_ends workers file files)
    ∙ batch_settles workers file files fits in
    ap₂ (λ (a b : Bool). a && b) (batch_turns workers file files few many plain)
    (ap after (batch_walk workers file files plain) ∙ ends)

-- the result of the whole line, by the walk over it, by whether that passes and whether `batch`
-- does
abbrev line_passes : Walk → Bool → Bool
line_passes w turns =
    entered_passes (built program_app)
    w.stopped && (turns && (settle_passes (built program_app).top.rules false w.held
    && (list_all default_passes (built program_app).top.rules && is_valid (built program_app).top
    (finished (built program_app).top.rules w.held)
    (is_some (entered (built program_app) w.stopped)))))

line_is : (words : List Text) → takes program_app words ≡ line_passes
    (walk (built program_app).top.rules (names_of (built program_app)) nothing_held words)
    (walk_passes (built program_app).top (names_of (built program_app))
    (walk_from nothing_held) words)
unfolding clap_on_literals
line_is words = refl

line_turns : (rest : List Text)
    → walk_passes (built program_app).top (names_of (built program_app)) (walk_from nothing_held)
    (codes "batch" ∷ rest)
    ≡ true
unfolding clap_on_literals
line_turns rest =
    stopped_passes (built program_app).top (names_of (built program_app)) (walk_from nothing_held)
    (codes "batch", []) rest

line_ends : (rest : List Text) → level_passes batch_shape [] nothing_held rest false ≡ true
    → line_passes (record (walk_from nothing_held) { stopped = Some (codes "batch", rest) }) true
    ≡ true
unfolding clap_on_literals
line_ends rest level = rw level refl

pub batch_taken : (workers : ℕ) (files : List Text) → 1 ≤ workers → workers ≤ 8 → 0 < length files
    → length files ≤ usize_max → list_all is_plain files ≡ true
    → takes program_app (batch_line workers files) ≡ true
batch_taken workers [] few many some fits plain = absurd (omega (arith, some))
batch_taken workers (file ∷ files) few many some fits plain =
    let rest = codes "--workers" ∷ digit workers ∷ file ∷ files in
    line_is (codes "batch" ∷ rest) ∙ ap₂ line_passes (sym (stops rest)) (line_turns rest)
    ∙ line_ends rest (level_taken workers file files few many fits plain)

pub replay_taken : takes program_app replay_line ≡ true
unfolding clap_on_literals
replay_taken = refl
