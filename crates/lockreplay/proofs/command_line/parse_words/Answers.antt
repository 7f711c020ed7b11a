-- The parser takes a plain line, and finds what it says.
use Rattle.std.proofs.lemmas.List.{length-map}
use Rattle.clap.specs.Lexer.{usize_max}
use Rattle.std.proofs.Common.{String, Global, length, map, string_bytes, ◌<◌, ◌≤◌, ◌^◌, rules, ◌≡◌}
use Rattle.std.proofs.Common.{◌∙◌, ℕ, List, Option, Some, option_map, codes, ap, ap₂, sym, refl}
use Rattle.std.proofs.Common.{subst, true, true≢false, arith, []}
use Rattle.std.specs.Prelude.{Err}
use Rattle.clap.specs.Words.{App, Text, is_simple, subcommand_of, takes}
use Rattle.clap.proofs.OnLiterals.{clap_on_literals}
use Rattle.lockreplay.specs.Commands.{program_app}
use Rattle.lockreplay.specs.CommandLines.{AnswersBatch, AsksFor, batch_line, replay_line}
use Rattle.lockreplay.specs.declared.command_line.Job.TheVariants.{Replay}
use Rattle.lockreplay.proofs.PlainLines.{batch_found}
use Rattle.lockreplay.proofs.TakenLines.{batch_taken, replay_taken}
use Rattle.std.proofs.lemmas.Option.{same_Some}
use Rattle.std.specs.Str.{bytes_eq}
use Rattle.clap.specs.Matches.{subcommand_name_of}
use Rattle.clap.specs.declared.parser.matches.ArgMatches.TheViews.{out-ArgMatches}
use Rattle.lockreplay.proofs.ReadRows.{first_of_pairs}
use Rattle.lockreplay.proofs.command_line.parse_words.Goals as goal

-- a slice has fewer elements than memory has bytes
fits_in_memory : (files : List Text) (words : List (String Global)) → (workers : ℕ)
    → map string_bytes words ≡ batch_line workers files → length words < 2 ^ 64
    → length files ≤ usize_max
fits_in_memory files words workers line few =
    omega (arith, few, ap length line, length-map words string_bytes)

pub returns-in-Err-clause-replay : goal.returns-in-Err-clause-replay
returns-in-Err-clause-replay c = λ line.
    let told =
    c.fault_of.ensures
    (c.in-Err.ensures.passes (ap₂ takes c.in_ok-command.ensures line ∙ replay_taken)) in
    subst (λ f. AsksFor (λ job. job ≡ Replay) (Err f)) (sym told) tt

pub returns-in-Err-clause-batch : goal.returns-in-Err-clause-batch
returns-in-Err-clause-batch c = λ workers files line few many some plain.
    let told = c.fault_of.ensures (c.in-Err.ensures.passes (ap₂ takes c.in_ok-command.ensures line
    ∙ batch_taken workers files few many
    some (fits_in_memory files c.args.words.now workers line (search rules)) plain)) in
    subst (λ f. AnswersBatch workers files (Err f)) (sym told) ((λ _. tt), λ _. tt)

is_simple_program : is_simple program_app ≡ true
is_simple_program = refl

-- a parser with this command finds this subcommand of this line
found_in : {A X : Type 0} (app : App) (words line : List Text) (found : Option X)
    (sub : App → List Text → Option X) (x : X)
    → (is_simple app ≡ true → A × (found ≡ sub app words))
    → app ≡ program_app → words ≡ line → sub program_app line ≡ Some x → found ≡ Some x
found_in app words line found sub x tells is line_is finds =
    (tells (ap is_simple is ∙ is_simple_program)).1 ∙ ap₂ sub is line_is ∙ finds

replay_found : subcommand_of program_app replay_line ≡ Some (codes "replay", [])
unfolding clap_on_literals
replay_found = refl

-- another subcommand than the one that was found
not_batch : {X : Type 0} (name : Option (List ℕ)) → name ≡ Some (codes "replay")
    → name ≡ Some (codes "batch") → X
not_batch name is also =
    absurd (true≢false (ap (λ t. bytes_eq t (codes "batch"))
    (same_Some _ _ (sym also ∙ is))))

pub returns-in-Some-clause-replay : goal.returns-in-Some-clause-replay
returns-in-Some-clause-replay c = λ line.
    let found =
    found_in _ _ _ _ subcommand_of _ c.in-Ok.ensures.matches c.in_ok-command.ensures line
    replay_found in
    not_batch (subcommand_name_of c.in-Ok.matches)
    (first_of_pairs _ _ (out-ArgMatches c.in-Ok.matches).subcommand _ _ found)
    (c.in-Some.ensures.found.0 refl)

pub returns-in-Some-clause-batch : goal.returns-in-Some-clause-batch
returns-in-Some-clause-batch c = λ workers files line few many some plain.
    let found =
    found_in _ _ _ _ subcommand_of _ c.in-Ok.ensures.matches c.in_ok-command.ensures line
    (batch_found workers files some plain) in
    c.batch_given.ensures.plain workers files
    (same_Some _ _ (sym c.in-Some.ensures.rows ∙ ap (option_map (λ p. p.1)) found)) few many some

pub returns-clause-batch : goal.returns-clause-batch
returns-clause-batch c = λ workers files line few many some plain.
    let found =
    found_in _ _ _ _ subcommand_of _ c.in-Ok.ensures.matches c.in_ok-command.ensures line
    (batch_found workers files some plain) in
    absurd (true≢false (sym (c.in-None.ensures.found.1
    (first_of_pairs _ _ (out-ArgMatches c.in-Ok.matches).subcommand _ _ found))))

pub returns-in-Some-clause-unfit : goal.returns-in-Some-clause-unfit
returns-in-Some-clause-unfit c = λ workers files line unfit some plain.
    let found =
    found_in _ _ _ _ subcommand_of _ c.in-Ok.ensures.matches c.in_ok-command.ensures line
    (batch_found workers files some plain) in
    c.batch_given.ensures.unfit workers files
    (same_Some _ _ (sym c.in-Some.ensures.rows ∙ ap (option_map (λ p. p.1)) found)) unfit

pub returns-clause-unfit : goal.returns-clause-unfit
returns-clause-unfit c = λ workers files line unfit some plain.
    let found =
    found_in _ _ _ _ subcommand_of _ c.in-Ok.ensures.matches c.in_ok-command.ensures line
    (batch_found workers files some plain) in
    absurd (true≢false (sym (c.in-None.ensures.found.1
    (first_of_pairs _ _ (out-ArgMatches c.in-Ok.matches).subcommand _ _ found))))
