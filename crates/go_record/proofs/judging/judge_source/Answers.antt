use Rattle.std.proofs.Common.{◌≡◌, ◌∙◌, ap, rules, subst}
use Rattle.std.specs.Prelude.{Err, Option, ℤ}
use Rattle.std.proofs.lemmas.Result.{err_from_is_err_and}
use Rattle.go_game.specs.Scores.{margin_of}
use Rattle.go_sgf.specs.Cooked.{cooked_simple}
use Rattle.go_sgf.specs.Numbers.{trimmed}
use Rattle.go_record.specs.Verdicts.{IsStated, margin_by, margin_spelled}
use Rattle.go_record.proofs.judging.judge_source.Goals as goal

pub returns-clause-ok : goal.returns-clause-ok
returns-clause-ok g c =
    let of = c.root_values-values.ensures in
    let t = of.0 in
    let root = of.2 in
    let is : c.in_ok-stated.stated ≡ margin_by t = c.in_ok-stated.ensures
    ∙ ap (λ v. margin_spelled (trimmed (cooked_simple v))) root.result_said in (
      t,
      of.1,
      record {
        standing = c.walk_on.new.game.standing;
        game = c.in_ok-walk_on.ensures.ok t of.1 (c.in_ok-root.ensures.ok t root);
        moves = search rules;
        margin = search rules;
        stated = subst (λ (o : Option ℤ). IsStated o (margin_of c.walk_on.new.game.standing) c.compared.result) is
            (search rules);
      },
    )
