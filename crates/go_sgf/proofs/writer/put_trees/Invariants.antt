use Rattle.std.proofs.Common.{ℕ, List, length}
use Rattle.go_board.specs.Pens.{Writes}
use Rattle.go_sgf.specs.Record.{Trees}
use Rattle.go_sgf.specs.Spelling.{Spells}
use Rattle.go_sgf.proofs.Tidied.{TreesLeft}
use Rattle.go_sgf.proofs.writer.put_trees.Given as goal

abbrev pub invariant-loop-inside : goal.invariant-loop-inside
invariant-loop-inside g l =
    (more : List ℕ)
    × Writes g.W.Sink l.fn.pen l.pen more
    × ((c : Trees) → Spells l.source c → TreesLeft c more l.rest)

abbrev pub decreases-loop-inside : goal.decreases-loop-inside
decreases-loop-inside g l = length l.rest
