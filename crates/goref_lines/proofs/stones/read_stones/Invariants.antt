use Rattle.std.proofs.Common.{◌≡◌, length}
use Rattle.goref_lines.specs.Stones.{spelled, stones_listed}
use Rattle.goref_lines.specs.inner.Gathered.{gathers}
use Rattle.goref_lines.proofs.stones.read_stones.Given as goal

abbrev pub invariant-loop-word : goal.invariant-loop-word
invariant-loop-word l = record {
  lines : l.stones.lines ≡ l.fn.size;
  goes_on : gathers l.stones (spelled l.words) ≡ stones_listed l.fn.size l.fn.words;
}

abbrev pub decreases-loop-word : goal.decreases-loop-word
decreases-loop-word l = length l.words
