use Rattle.std.proofs.Common.{◌≡◌, ◌++◌, List, length}
use Rattle.go_sgf.specs.Record.{Property}
use Rattle.go_sgf.proofs.Passing.{NodesSoFar}
use Rattle.go_sgf.proofs.reader.read_nodes.Given as goal

abbrev pub invariant-loop-inside : goal.invariant-loop-inside
invariant-loop-inside g l =
    (ns : List (List Property)) × (g.K.Keep.keeps → l.list ≡ l.initial.list ++ ns) × NodesSoFar l.bytes ns l.rest

abbrev pub decreases-loop-inside : goal.decreases-loop-inside
decreases-loop-inside g l = length l.rest
