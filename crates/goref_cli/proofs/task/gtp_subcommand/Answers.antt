use Rattle.std.proofs.Common.{ap, ap₂, ◌≡◌, ◌∙◌, ◌||◌, codes}
use Rattle.std.proofs.lemmas.Result.{IfOk-weaker}
use Rattle.clap.specs.Words.{app_of, new_app, with_rule}
use Rattle.clap.specs.Simple.{app_of_fields}
use Rattle.goref_cli.proofs.task.gtp_subcommand.Goals as goal

pub returns-clause-command : goal.returns-clause-command
returns-clause-command c =
    let named : app_of c.after_help.result ≡ new_app (codes "gtp") =
    ap app_of_fields c.after_help.ensures ∙ ap app_of_fields c.about.ensures ∙ c.new.ensures.app in
    IfOk-weaker c.arg.result _ _ (λ m h. h.shape c.size_argument.ensures.local
    ∙ ap₂ with_rule named c.size_argument.ensures.rule) c.arg.ensures

pub returns-clause-local : goal.returns-clause-local
returns-clause-local c =
    IfOk-weaker c.arg.result _ _ (λ m h. h.globals
    ∙ ap₂ (λ x y. x || y) (ap (λ f. f.has_globals) c.after_help.ensures ∙ ap (λ f. f.has_globals) c.about.ensures
    ∙ c.new.ensures.local) c.size_argument.ensures.local) c.arg.ensures
