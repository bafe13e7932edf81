use Rattle.std.proofs.Common.{rules, arith, ◌≡◌, ◌*◌, ◌∙◌, ap, ℕ}
use Rattle.go_chains.proofs.answers.Queries.{grid_filled}
use Rattle.go_chains.proofs.board.Board+Open.grid.Goals as goal

pub returns-clause-colours : goal.returns-clause-colours
returns-clause-colours c =
    let n = c.args.self.now.lines in
    let end : c.points-number-end.result ≡ n * n = c.points-number-end.ensures.value
    ∙ ap (λ (k : ℕ). k * k) c.size-size.ensures.lines in
    grid_filled n c.args.self.now.cells c.loop-number.grid.colours c.loop-number.number (omega arith)
    c.loop-number.invariant.whole c.loop-number.invariant.done

pub loop-number-preserved : goal.loop-number-preserved
loop-number-preserved c = search rules
