use Rattle.std.proofs.Common.{rules, arith, ◌∙◌}
use Rattle.go_chains.proofs.rules.Quiet.{label_low}
use Rattle.go_chains.proofs.quiet.outlook_on.Goals as goal

pub has_liberty_but-lives-requires-clause-label : goal.has_liberty_but-lives-requires-clause-label
has_liberty_but-lives-requires-clause-label g c =
    omega (
      arith,
      c.get-label.ensures.value,
      label_low c.args.size c.args.cells.now.numbers c.requires.kept c.args.near c.requires.near
          (λ e. c.if-code-eq0.false (c.get-code.ensures.value ∙ e)),
    )

pub returns-in-true-true-clause-count : goal.returns-in-true-true-clause-count
returns-in-true-true-clause-count g c = search rules

pub returns-in-true-true-clause-outlook : goal.returns-in-true-true-clause-outlook
returns-in-true-true-clause-outlook g c = search rules
