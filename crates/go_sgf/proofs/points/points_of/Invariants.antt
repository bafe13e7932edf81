use Rattle.std.specs.List.{All}
use Rattle.go_board.specs.Points.{IsOn}
use Rattle.go_sgf.proofs.Listing.{ListedSoFar}
use Rattle.go_sgf.proofs.points.points_of.Given as goal

abbrev pub invariant-loop-value : goal.invariant-loop-value
invariant-loop-value g l = record {
  listed : ListedSoFar l.size l.values l.value-index l.points.items;
  on : All (IsOn l.size) l.points.items;
}
