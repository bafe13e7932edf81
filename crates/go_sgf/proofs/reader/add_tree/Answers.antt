use Rattle.std.proofs.Common.{◌≡◌, ◌∙◌, [], ◌∷◌, ◌++◌, rules, ap, map}
use Rattle.std.proofs.lemmas.List.{map-append}
use Rattle.go_sgf.specs.View.{tree_of, trees_of}
use Rattle.go_sgf.proofs.Growing.{tree_of-roll}
use Rattle.go_sgf.proofs.reader.add_tree.Goals as goal

pub returns-in_ok-push-clause-added : goal.returns-in_ok-push-clause-added
returns-in_ok-push-clause-added g c =
    let more : map tree_of c.push.new.list.items ≡ map tree_of c.in-Some.list.items
    ++ (c.new-nodes.result, trees_of c.in-Some-children.children.items) ∷ [] =
    ap (map tree_of) c.in_ok-push.ensures ∙ map-append tree_of c.in-Some.list.items _
    ∙ ap (λ t. map tree_of c.in-Some.list.items ++ t ∷ []) (tree_of-roll _) in
    search (rules, more)
