-- The plain data that trees stand for.
use Rattle.std.specs.Prelude.{List, [], ◌∷◌, map}
use Rattle.go_sgf.specs.Record.{TreeValue, Trees, none, tree}
use Rattle.go_sgf.specs.declared.record.Tree.{Tree}
use Rattle.go_sgf.specs.declared.record.Tree.TheOpen.{Tree-F}
use Rattle.go_sgf.specs.declared.record.Tree.TheFolds.{fold-Tree}

-- trees by their nodes and children, one after another
abbrev pub chain : List TreeValue → Trees
chain [] = none
chain (t ∷ ts) = tree t.0 t.1 (chain ts)

-- a tree by its nodes and its children, where each child is already given by its own
abbrev pub nodes_and_children : {A : Type 0} → Tree-F A TreeValue → TreeValue
nodes_and_children t = (t.nodes, chain t.children.items)

-- a tree by its nodes and its children, and each child by its own, all the way down
abbrev pub tree_of : {A : Type 0} → Tree A → TreeValue
tree_of {A} = fold-Tree A TreeValue nodes_and_children

-- trees given so, one after another
abbrev pub trees_of : {A : Type 0} → List (Tree A) → Trees
trees_of ts = chain (map tree_of ts)
