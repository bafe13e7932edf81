use Rattle.std.proofs.Common.{◌*◌, ◌<◌, ◌≡◌, ◌∙◌, ℕ, ap, ap₂, arith}
use Rattle.std.proofs.Math.ListN.{set}
use Rattle.std.proofs.Math.Seq.{take-set-lt}
use Rattle.go_board.specs.Grids.{GridValue}
use Rattle.go_board.specs.Points.{number_of}
use Rattle.go_board.proofs.grid.Grid.set.Goals as goal

pub returns-clause-colours : goal.returns-clause-colours
returns-clause-colours c =
    let points = c.self.inside.size * c.self.inside.size in
    let at : c.from.result ≡ number_of c.args.self.now.lines c.args.p = c.from.ensures ∙ c.index.ensures.value
    ∙ ap (λ (g : GridValue). number_of g.lines c.args.p) c.self.view_is in
    let below : c.from.result < points = omega (arith, c.from.ensures, c.index.ensures.bound) in
    take-set-lt points c.self.inside.cells c.from.result c.args.colour below
    ∙ ap₂ (λ (g : GridValue) (k : ℕ). set g.colours k c.args.colour) c.self.view_is at
