use Rattle.std.proofs.Common.{◌≡◌, ℕ}
use Rattle.std.specs.Prelude.{◌↔◌}
use Rattle.go_board.specs.PointSets.{HasPoint}
use Rattle.go_chains.specs.Cells.{next_of}
use Rattle.go_chains.specs.inner.Rings.{IsOnRing, steps}
use Rattle.go_chains.proofs.marks.put_ring.Given as goal

abbrev pub invariant-loop : goal.invariant-loop
invariant-loop l = record {
  at : l.at ≡ steps (next_of l.fn.cells.numbers) l.counter l.fn.from;
  marked : (q : ℕ) → HasPoint l.set q ↔ IsOnRing (next_of l.fn.cells.numbers) l.counter l.fn.from q;
}
