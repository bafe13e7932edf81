use Rattle.std.proofs.Common.{◌≡◌, List, Some, is_some, length, true}
use Rattle.go_sgf.specs.inner.Held.{trees_in}
use Rattle.go_sgf.specs.Record.{TreeValue}
use Rattle.go_sgf.proofs.Stops.{TreesSoFar}
use Rattle.go_sgf.proofs.reader.read_trees.Given as goal

abbrev pub invariant-loop-inside : goal.invariant-loop-inside
invariant-loop-inside g l =
    (ts : List TreeValue) × (g.K.Keep.keeps → trees_in l.trees ≡ Some ts)
    × (is_some l.trees ≡ true → g.K.Keep.keeps) × TreesSoFar l.source ts l.rest

abbrev pub decreases-loop-inside : goal.decreases-loop-inside
decreases-loop-inside g l = length l.rest
