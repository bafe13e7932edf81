use Rattle.std.proofs.Common.{◌≡◌, ◌-◌, ℕ, List, Some, true, length}
use Rattle.std.specs.Prelude.{is_some}
use Rattle.go_sgf.specs.declared.limits.TheConstants.{MAX_DEPTH}
use Rattle.go_sgf.specs.inner.Few.{items_in}
use Rattle.go_sgf.specs.inner.Held.{trees_in}
use Rattle.go_sgf.specs.inner.Reads.{ReadsNodes}
use Rattle.go_sgf.specs.Record.{Property, TreeValue}
use Rattle.go_sgf.proofs.Growing.{TreeSoFar}
use Rattle.go_sgf.proofs.reader.+read_tree.Given as goal

abbrev pub decreases-read_tree : goal.decreases-read_tree
decreases-read_tree g l = MAX_DEPTH - l.depth

abbrev pub invariant-loop-inside : goal.invariant-loop-inside
invariant-loop-inside g l =
    (ns : List (List Property)) × (ts : List TreeValue)
    × (g.K.Keep.keeps → items_in l.own-inside.held ≡ ns) × (g.K.Keep.keeps → trees_in l.children ≡ Some ts)
    × (is_some l.children ≡ true → g.K.Keep.keeps)
    × TreeSoFar l.depth l.bytes ns ts l.rest × (mid : List ℕ) × ReadsNodes l.bytes ns mid

abbrev pub decreases-loop-inside : goal.decreases-loop-inside
decreases-loop-inside g l = length l.rest
