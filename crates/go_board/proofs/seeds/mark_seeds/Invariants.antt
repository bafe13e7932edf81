use Rattle.go_board.specs.inner.Flood.{IsSeeding}
use Rattle.go_board.proofs.seeds.mark_seeds.Given as goal

abbrev pub invariant-loop-number : goal.invariant-loop-number
invariant-loop-number l = IsSeeding l.grid.lines l.grid.colours l.from l.to l.number l.marks l.waiting.items
