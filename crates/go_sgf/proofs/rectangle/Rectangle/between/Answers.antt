use Rattle.std.proofs.Common.{◌+◌, ◌-◌, ap₂}
use Rattle.go_sgf.proofs.Rectangles.{rows_listed}
use Rattle.go_sgf.proofs.rectangle.Rectangle.between.Goals as goal

pub returns : goal.returns
returns c = λ n from to.
    rows_listed n c.args.from c.args.to from to _ c.min-column.ensures
    (ap₂ (λ high low. high - low + 1) c.max.ensures c.min-column.ensures)
    c.min-row.ensures (ap₂ (λ high low. high - low + 1) c.max-2.ensures c.min-row.ensures)
