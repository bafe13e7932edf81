use Rattle.std.proofs.Common.{rules, sym, if◌then◌else◌}
use Rattle.go_board.specs.Points.{point_at}
use Rattle.go_board.specs.declared.vertex.Vertex.TheVariants.{At}
use Rattle.go_game.specs.Legal.{is_legal}
use Rattle.goref_c.proofs.Told.{one_more}
use Rattle.goref_c.proofs.calls.marks_of.Goals as goal

pub loop-number-preserved : goal.loop-number-preserved
loop-number-preserved c =
    let s = c.args.held.now.standing in (
      search rules,
      search rules,
      one_more (λ p. if is_legal s c.args.colour (At (point_at s.lines p)) then 1 else 0) c.loop-number.marks
          c.loop-number.number c.from.result c.mark_of.result (search rules) (sym c.from.ensures) (search rules)
          c.loop-number.invariant.2,
    )
