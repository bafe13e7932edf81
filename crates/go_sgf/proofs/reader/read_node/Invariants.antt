use Rattle.std.proofs.Common.{◌≡◌, List, Some, length}
use Rattle.go_sgf.specs.Record.{Property}
use Rattle.go_sgf.proofs.Passing.{NodeSoFar}
use Rattle.go_sgf.proofs.reader.read_node.Given as goal

abbrev pub invariant-loop-properties : goal.invariant-loop-properties
invariant-loop-properties g l =
    (ps : List Property) × (g.K.Keep.keeps → l.properties ≡ Some ps) × NodeSoFar l.bytes ps l.rest

abbrev pub decreases-loop-properties : goal.decreases-loop-properties
decreases-loop-properties g l = length l.rest
