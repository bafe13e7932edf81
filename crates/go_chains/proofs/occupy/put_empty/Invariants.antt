use Rattle.std.proofs.Common.{◌≡◌, ◌+◌}
use Rattle.go_chains.specs.inner.Writes.{MarksEmpty}
use Rattle.go_chains.proofs.occupy.put_empty.Given as goal

abbrev pub invariant-loop-near : goal.invariant-loop-near
invariant-loop-near g l = record {
  marks : MarksEmpty l.fn.cells.numbers l.set l.fn.beside l.near-index;
  count : l.meter ≡ l.fn.meter + l.near-index;
}
