use Rattle.go_board.specs.inner.Flood.{work}
use Rattle.go_board.proofs.Flooding.{IsFlood}
use Rattle.go_board.proofs.flood.spread.Given as goal

abbrev pub invariant-loop-number : goal.invariant-loop-number
invariant-loop-number l = IsFlood l.grid.lines l.grid.colours l.fn.marks l.marks l.waiting.items

abbrev pub decreases-loop-number : goal.decreases-loop-number
decreases-loop-number l = work l.marks l.waiting.items
