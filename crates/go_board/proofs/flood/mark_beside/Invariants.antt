use Rattle.go_board.specs.Points.{number_of}
use Rattle.go_board.specs.inner.Flood.{Grows, IsMarked, IsStep}
use Rattle.go_board.proofs.Beside.{HoldsOfFirst}
use Rattle.go_board.proofs.flood.mark_beside.Given as goal

abbrev pub invariant-loop-q : goal.invariant-loop-q
invariant-loop-q l = record {
  grows : Grows (IsStep l.grid.lines l.grid.colours (number_of l.grid.lines l.fn.p)) l.initial.marks
      l.initial.waiting.items l.marks l.waiting.items;
  done : HoldsOfFirst l.grid.lines l.grid.colours l.colour l.q-items l.q-index (IsMarked l.marks);
}
