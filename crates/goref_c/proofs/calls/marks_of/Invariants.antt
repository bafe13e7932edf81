use Rattle.std.proofs.Common.{◌≡◌, length, map, take, if◌then◌else◌}
use Rattle.std.specs.List.{range_with_len}
use Rattle.go_board.specs.Points.{point_at}
use Rattle.go_board.specs.declared.vertex.Vertex.TheVariants.{At}
use Rattle.go_game.specs.Legal.{is_legal}
use Rattle.goref_c.proofs.calls.marks_of.Given as goal

abbrev pub invariant-loop-number : goal.invariant-loop-number
invariant-loop-number l =
    (l.held ≡ l.initial.held)
    × (length l.marks ≡ 625)
    × (take l.number l.marks
    ≡ map (λ p. if is_legal l.initial.held.standing l.fn.colour (At (point_at l.initial.held.standing.lines p)) then 1 else 0)
    (range_with_len 0 l.number))
