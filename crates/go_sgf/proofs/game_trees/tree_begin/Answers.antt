use Rattle.std.proofs.Common.{◌≡◌, ◌∙◌, ◌-◌, List, ℕ, drop, length, ap, sym, arith}
use Rattle.std.proofs.lemmas.Bool.{eqb-false}
use Rattle.std.proofs.lemmas.List.{drop_min, length-drop}
use Rattle.go_sgf.proofs.Stops.{length-from_first_tree}
use Rattle.go_sgf.proofs.Walking.{begins_here}
use Rattle.go_sgf.proofs.game_trees.tree_begin.Goals as goal

pub overflow_sub-result : goal.overflow_sub-result
overflow_sub-result c =
    let text = c.split_at.result.1.now in
    let sized : length text ≡ length c.args.source.now - c.min.result =
    ap (λ (b : List ℕ). length b) c.split_at.ensures.back ∙ length-drop c.min.result c.args.source.now in
    omega (arith, length-from_first_tree text, ap (λ (b : List ℕ). length b) c.from_first_tree-found.ensures)

pub returns-clause-begins : goal.returns-clause-begins
returns-clause-begins c =
    let source = c.args.source.now in
    begins_here source c.split_at.result.1.now c.from_first_tree-found.result.now c.args.from
    (c.split_at.ensures.back ∙ ap (λ n. drop n source) c.min.ensures ∙ drop_min c.args.from source)
    c.from_first_tree-found.ensures
    (eqb-false (length c.from_first_tree-found.result.now) 0 (sym c.if-is_empty.ensures))
