use Rattle.std.proofs.Common.{◌≡◌, ◌++◌, ℕ, List, length}
use Rattle.go_sgf.specs.Record.{values_of}
use Rattle.go_sgf.proofs.Passing.{ValuesSoFar}
use Rattle.go_sgf.proofs.reader.read_values.Given as goal

abbrev pub invariant-loop-inside : goal.invariant-loop-inside
invariant-loop-inside g l =
    (vs : List (List ℕ)) × (g.K.Keep.keeps → values_of l.list ≡ values_of l.initial.list ++ vs)
    × ValuesSoFar l.bytes vs l.rest

abbrev pub decreases-loop-inside : goal.decreases-loop-inside
decreases-loop-inside g l = length l.rest
