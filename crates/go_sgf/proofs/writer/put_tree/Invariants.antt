use Rattle.std.proofs.Common.{◌≡◌, ◌≤◌, ◌+◌, ◌^◌, ◌++◌, ℕ, List, length}
use Rattle.go_board.specs.Pens.{Writes}
use Rattle.go_sgf.specs.inner.Tidied.{Outside, rest_from, tidied_from}
use Rattle.go_sgf.proofs.writer.put_tree.Given as goal

abbrev pub invariant-loop-depth : goal.invariant-loop-depth
invariant-loop-depth g l = record {
  written : (more : List ℕ)
      × Writes g.W.Sink l.fn.pen l.pen more
      × (tidied_from Outside 1 l.text ≡ more ++ tidied_from Outside l.depth l.rest);
  after : rest_from Outside 1 l.text ≡ rest_from Outside l.depth l.rest;
  shorter : length l.rest ≤ length l.text;
  bound : l.depth + length l.rest ≤ 2 ^ 63;
}

abbrev pub decreases-loop-depth : goal.decreases-loop-depth
decreases-loop-depth g l = length l.rest
