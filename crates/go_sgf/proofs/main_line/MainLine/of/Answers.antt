use Rattle.std.proofs.Common.{◌∙◌, ap, sym}
use Rattle.go_sgf.specs.Spelling.{is_first, tree_in}
use Rattle.go_sgf.proofs.LineWalks.{line_first, some_first}
use Rattle.go_sgf.proofs.main_line.MainLine.of.Goals as goal

pub returns-in-Some : goal.returns-in-Some
returns-in-Some c =
    let s = c.text.ensures.spelled in (
      s.0,
      s.1,
      line_first c.args.checked.now c.in-Some.rest.now s.0 s.1
          (ap tree_in (sym c.text.ensures.text) ∙ sym c.from_first_tree.ensures ∙ c.in-Some.ensures.stripped),
    )

pub returns-in-None : goal.returns-in-None
returns-in-None c =
    let s = c.text.ensures.spelled in
    absurd (some_first c.args.checked.now s.0 s.1
    (ap (λ b. is_first 40 (tree_in b)) (sym c.text.ensures.text) ∙ ap (is_first 40) (sym c.from_first_tree.ensures)
    ∙ c.in-None.ensures.other))
