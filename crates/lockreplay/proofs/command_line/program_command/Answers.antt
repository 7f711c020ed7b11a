-- The command is built of its two subcommands.
use Rattle.std.proofs.Common.{rules, ◌≡◌, ◌∙◌, ap, ap₂}
use Rattle.std.proofs.lemmas.Result.{IfOk-weaker}
use Rattle.std.specs.Prelude.{codes}
use Rattle.clap.specs.Words.{App, app_of, new_app, with_subcommand}
use Rattle.lockreplay.specs.Commands.{bare_app}
use Rattle.lockreplay.proofs.command_line.program_command.Goals as goal

pub returns : goal.returns
returns c =
    let replay_is : app_of c.about-replay.result ≡ new_app (codes "replay") = search rules in
    let bare_is : app_of c.subcommand_required.result ≡ bare_app = search rules in
    IfOk-weaker c.subcommand-2.result _ _ (λ r h. h.shape (search rules)
    ∙ ap₂ with_subcommand (c.in_ok-subcommand.ensures.shape (search rules)
    ∙ ap₂ with_subcommand bare_is (ap (λ (a : App). a.top) replay_is))
    (ap (λ (a : App). a.top) c.in_ok-batch_command.ensures.app)) c.subcommand-2.ensures
