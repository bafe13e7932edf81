use Rattle.go_board.specs.inner.Flood.{IsMarked}
use Rattle.go_board.proofs.Beside.{HoldsOfEach}
use Rattle.go_board.proofs.plain.is_beside_chain.Given as goal

abbrev pub invariant-loop-r : goal.invariant-loop-r
invariant-loop-r l = HoldsOfEach l.grid.lines l.r-items l.r-index (λ j. IsMarked l.chain j → ⊥)
