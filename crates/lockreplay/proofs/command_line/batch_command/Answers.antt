-- The command is built of its two arguments.
use Rattle.std.proofs.Common.{rules, ◌≡◌, ◌∙◌, ap, ap₂}
use Rattle.std.proofs.lemmas.Result.{IfOk-weaker}
use Rattle.std.specs.Prelude.{Some, codes, pos}
use Rattle.clap.specs.Words.{app_of, new_app, rule_of, with_rule}
use Rattle.clap.specs.declared.builder.value_parser.ValueParser.TheVariants as vp
use Rattle.lockreplay.specs.Commands.{files_rule, workers_rule}
use Rattle.clap.specs.Lexer.{usize_max}
use Rattle.lockreplay.proofs.ReadRows.{is_given}
use Rattle.lockreplay.proofs.command_line.batch_command.Goals as goal

pub returns-clause-app : goal.returns-clause-app
returns-clause-app c =
    let given = c.value_parser-workers.ensures.given in
    let made : c.range.result ≡ vp.Signed (pos 1) (pos 8) =
    rw (c.value_parser.ensures, c.new-2.ensures.start, c.new-2.ensures.end)
    at c.range.ensures in
    let is_q : given.0 ≡ vp.Signed (pos 1) (pos 8) = given.2 ∙ made in
    let parser = given.1 ∙ ap Some is_q in
    let workers_is : rule_of c.value_parser-workers.result ≡ workers_rule = search rules in
    let ranged : c.num_args.result.num_vals
    ≡ Some (record { start_inclusive = 1; end_inclusive = usize_max }) =
    is_given _ _ c.num_args.ensures.1 in
    let files_is : rule_of c.action-files.result ≡ files_rule = search rules in
    let bare_is : app_of c.about.result ≡ new_app (codes "batch") = search rules in
    IfOk-weaker c.arg-2.result _ _ (λ r h. h.shape (search rules) ∙ ap₂ with_rule
    (c.in_ok-arg.ensures.shape (search rules) ∙ ap₂ with_rule bare_is workers_is) files_is)
    c.arg-2.ensures

pub returns-clause-own : goal.returns-clause-own
returns-clause-own c = IfOk-weaker c.arg-2.result _ _ (λ r h. search rules) c.arg-2.ensures
