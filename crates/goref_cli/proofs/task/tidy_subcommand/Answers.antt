use Rattle.std.proofs.Common.{ap, ◌∙◌}
use Rattle.clap.specs.Simple.{app_of_fields}
use Rattle.goref_cli.proofs.task.tidy_subcommand.Goals as goal

pub returns-clause-command : goal.returns-clause-command
returns-clause-command c = ap app_of_fields c.after_help.ensures ∙ ap app_of_fields c.override_usage.ensures
    ∙ ap app_of_fields c.about.ensures ∙ c.new.ensures.app

pub returns-clause-local : goal.returns-clause-local
returns-clause-local c = ap (λ f. f.has_globals) c.after_help.ensures ∙ ap (λ f. f.has_globals) c.override_usage.ensures
    ∙ ap (λ f. f.has_globals) c.about.ensures ∙ c.new.ensures.local
