use Rattle.std.proofs.Common.{◌≡◌, ◌∙◌, ◌<◌, ◌+◌, ℕ, sym, ap, subst, arith}
use Rattle.std.proofs.lemmas.List.Elements.{All-same}
use Rattle.std.specs.List.{All, flat_map, range_with_len}
use Rattle.go_board.specs.Colours.{Colouring}
use Rattle.go_board.specs.Points.{IsOn}
use Rattle.go_sgf.specs.Rectangles.{points_of_row}
use Rattle.go_record.specs.Walks.{with_points}
use Rattle.go_record.proofs.Setting.{all_in_row, row_more, with_points_append}
use Rattle.go_record.proofs.start.set_rows.Goals as goal

pub set_row-requires : goal.set_row-requires
set_row-requires c =
    let n = c.args.grid.now.lines in
    let row = points_of_row c.args.rectangle in
    let at = c.loop-number.number in
    let low : at < c.args.rectangle.rows = omega (arith, c.loop-number-test.true, c.rows-number-end.ensures) in
    let same : c.row.result ≡ row (0 + at) = c.row.ensures ∙ ap row (let e : at ≡ 0 + at = omega arith in e) in
    subst (λ (m : ℕ). All (IsOn m) c.row.result) (sym c.loop-number.invariant.lines)
    (All-same (IsOn n) c.row.result (row (0 + at)) same
    (all_in_row (IsOn n) row 0 c.args.rectangle.rows at low c.requires))

pub loop-number-preserved : goal.loop-number-preserved
loop-number-preserved c =
    let n = c.args.grid.now.lines in
    let colour = c.args.colour in
    let old = c.args.grid.now.colours in
    let row = points_of_row c.args.rectangle in
    let at = c.loop-number.number in
    let before = flat_map row (range_with_len 0 at) in
    record {
      lines = c.set_row.ensures.lines ∙ c.loop-number.invariant.lines;
      colours =
          c.set_row.ensures.colours
          ∙ ap (λ (m : ℕ). with_points m colour c.loop-number.grid.colours c.row.result) c.loop-number.invariant.lines
          ∙ ap (λ (g : Colouring). with_points n colour g c.row.result) c.loop-number.invariant.colours
          ∙ ap (with_points n colour (with_points n colour old before)) c.row.ensures
          ∙ sym (with_points_append n colour old before (row at))
          ∙ ap (with_points n colour old) (sym (row_more row at));
    }
