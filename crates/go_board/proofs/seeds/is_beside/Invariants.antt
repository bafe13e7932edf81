use Rattle.go_board.proofs.Beside.{HoldsOfFirst}
use Rattle.go_board.proofs.seeds.is_beside.Given as goal

abbrev pub invariant-loop-q : goal.invariant-loop-q
invariant-loop-q l = HoldsOfFirst l.grid.lines l.grid.colours l.colour l.q-items l.q-index (λ j. ⊥)
