use Rattle.std.proofs.Common.{◌∙◌, ℕ, sym, ap}
use Rattle.std.specs.Prelude.{slice_set}
use Rattle.std.proofs.lemmas.List.Elements.{All-rest}
use Rattle.go_board.specs.Colours.{Colouring}
use Rattle.go_board.specs.Points.{IsOn, number_of}
use Rattle.go_record.specs.Walks.{with_points}
use Rattle.go_record.proofs.start.set_row.Goals as goal

pub loop-point-preserved : goal.loop-point-preserved
loop-point-preserved c =
    let n = c.args.grid.now.lines in
    let colour = c.args.colour in
    let now = c.loop-point.grid.colours in
    let point = c.in-Some.point in
    let rest = c.next.new.self in
    record {
      lines = c.set.ensures.lines ∙ c.loop-point.invariant.lines;
      on = All-rest (IsOn n) point rest c.loop-point.point-iterator c.in-Some.ensures.steps c.loop-point.invariant.on;
      colours =
          ap (λ (g : Colouring). with_points n colour g rest)
          (c.set.ensures.colours ∙ ap (λ (m : ℕ). slice_set now (number_of m point) colour)
          c.loop-point.invariant.lines)
          ∙ ap (with_points n colour now) (sym c.in-Some.ensures.steps)
          ∙ c.loop-point.invariant.colours;
    }
