use Rattle.std.proofs.Common.{ap, ap₂, ◌≡◌, ◌∙◌, true}
use Rattle.std.proofs.lemmas.Result.{IfOk-weaker}
use Rattle.clap.specs.Words.{App, app_of, with_subcommand}
use Rattle.clap.specs.Simple.{app_of_fields, on_top}
use Rattle.goref_cli.specs.CommandLine.{bare_program, gtp_command, judge_command}
use Rattle.goref_cli.proofs.task.program_command.Goals as goal

pub returns : goal.returns
returns c =
    let bare_is : app_of c.subcommand_required.result ≡ bare_program =
    ap app_of_fields c.subcommand_required.ensures
    ∙ ap (on_top (λ s. record s { subcommand_required = true }))
    (ap app_of_fields c.about.ensures ∙ ap app_of_fields c.version.ensures
    ∙ ap (on_top (λ s. record s { has_version = true })) c.new.ensures.app) in
    let with_gtp : app_of c.in_ok-subcommand.field-0 ≡ with_subcommand bare_program gtp_command.top =
    c.in_ok-subcommand.ensures.shape c.in_ok-gtp.ensures.local
    ∙ ap₂ with_subcommand bare_is (ap (λ (a : App). a.top) c.in_ok-gtp.ensures.command) in
    let with_judge : app_of c.in_ok-subcommand-2.field-0 ≡ with_subcommand
    (with_subcommand bare_program gtp_command.top) judge_command.top =
    c.in_ok-subcommand-2.ensures.shape c.judge_subcommand.ensures.local
    ∙ ap₂ with_subcommand with_gtp (ap (λ (a : App). a.top) c.judge_subcommand.ensures.command) in
    IfOk-weaker c.subcommand-3.result _ _
    (λ m h. h.shape c.tidy_subcommand.ensures.local
    ∙ ap₂ with_subcommand with_judge (ap (λ (a : App). a.top) c.tidy_subcommand.ensures.command))
    c.subcommand-3.ensures
