use Rattle.std.proofs.Common.{rules, ◌≡◌, ◌∙◌, IsSome, true, ap}
use Rattle.clap.specs.Words.{app_of, is_simple, kind_of, subcommand_of, takes}
use Rattle.clap.proofs.TakesLemmas.{passed_up}
use Rattle.goref_cli.specs.CommandLine.{program, texts_of}
use Rattle.clap.specs.declared.error.kind.ErrorKind.TheVariants.{OutOfMemory}
use Rattle.goref_cli.proofs.Plain.{plain}
use Rattle.goref_cli.proofs.task.task_of.Goals as goal

pub returns-in_err-matches-clause-plain : goal.returns-in_err-matches-clause-plain
returns-in_err-matches-clause-plain c h =
    let app_is : app_of c.in_ok-program_command.field-0 ≡ program = c.in_ok-program_command.ensures in
    let taken : takes program (texts_of c.args.words.now) ≡ true = (plain _ h).0 in
    let passes = c.in_err-matches.ensures.passes (ap (λ a. takes a (texts_of c.args.words.now)) app_is ∙ taken) in
    passed_up c.from_residual-in_err-matches.result c.in_err-matches.field-0.0 (λ e. kind_of e ≡ OutOfMemory)
    c.from_residual-in_err-matches.ensures.1 passes

pub returns-clause-plain : goal.returns-clause-plain
returns-clause-plain c h =
    let app_is : app_of c.in_ok-program_command.field-0 ≡ program = c.in_ok-program_command.ensures in
    let found = (plain _ h).1 in
    let same = (c.in_ok-matches.ensures.matches (ap is_simple app_is)).1
    ∙ ap (λ a. subcommand_of a (texts_of c.args.words.now)) app_is in
    let some : IsSome c.asked.result = c.asked.ensures.some found.0 (same ∙ found.1) found.2 in
    let bad = rw c.in-None.is at some in
    cc

pub returns-in-Some-clause-plain : goal.returns-in-Some-clause-plain
returns-in-Some-clause-plain c = search rules
