use Rattle.std.proofs.Common.{◌≡◌, ◌≤◌, ◌*◌, count_by}
use Rattle.std.specs.List.{range_with_len}
use Rattle.go_board.specs.inner.PointCounts.{is_counted}
use Rattle.go_board.proofs.point_set.PointSet.count.Given as goal

abbrev pub invariant-loop-word : goal.invariant-loop-word
invariant-loop-word l = record {
  counted : l.count ≡ count_by (is_counted l.self-inside.words l.points) (range_with_len 0 (64 * l.word));
  few : l.count ≤ 64 * l.word;
}
