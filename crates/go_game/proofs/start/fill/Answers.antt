use Rattle.std.proofs.Common.{arith, ◌≡◌, ◌<◌, ◌∙◌, ◌+◌, ◌*◌, ℕ, ap, length}
use Rattle.go_chains.specs.Boards.{grid_of}
use Rattle.go_game.specs.Counts.{most_to_fill}
use Rattle.go_game.specs.inner.Building.{most_to_put}
use Rattle.go_game.proofs.Building.{filled_all, filled_none}
use Rattle.go_game.proofs.Filling.{all_put, next_below, sum-whole}
use Rattle.go_game.proofs.start.fill.Goals as goal

pub loop-number-init : goal.loop-number-init
loop-number-init g c = record {
  lines = c.requires.lines;
  kept = c.requires.kept;
  filled = filled_none c.args.grid.now.lines c.args.grid.now.colours (grid_of c.args.board.now) c.requires.empty;
  writes = omega (
    arith,
    sum-whole (most_to_put c.args.grid.now) (c.args.grid.now.lines * c.args.grid.now.lines),
    all_put c.args.grid.now,
  );
}

pub returns-clause-colours : goal.returns-clause-colours
returns-clause-colours g c =
    let n = c.args.grid.now.lines in
    let square : c.size.result * c.size.result ≡ n * n = ap (λ m. let k : ℕ = m * m in k) c.size.ensures.lines in
    filled_all n c.args.grid.now.colours (grid_of c.loop-number.board) c.loop-number.number
    (let a = c.loop-number-test.false in let b = c.points-number-end.ensures.value in omega arith)
    (c.size.ensures.whole ∙ square) c.loop-number.invariant.filled

pub loop-number-preserved : goal.loop-number-preserved
loop-number-preserved g c =
    let n = c.args.grid.now.lines in
    let square : c.size.result * c.size.result ≡ n * n = ap (λ m. let k : ℕ = m * m in k) c.size.ensures.lines in
    let low : c.loop-number.number < n * n =
    omega (arith, c.loop-number-test.true, c.points-number-end.ensures.value, square) in
    record {
      lines = c.put_stone.ensures.lines;
      kept = c.put_stone.ensures.kept;
      filled = c.in_ok-put_stone.ensures.filled;
      writes = next_below (most_to_put c.args.grid.now) c.loop-number.number (n * n) (length c.loop-number.board.trace)
          (length c.put_stone.new.board.trace) (length c.args.board.now.trace + most_to_fill c.args.grid.now)
          low c.loop-number.invariant.writes c.put_stone.ensures.writes;
    }

pub returns-in_err-put_stone-clause-writes : goal.returns-in_err-put_stone-clause-writes
returns-in_err-put_stone-clause-writes g c =
    let n = c.args.grid.now.lines in
    let square : c.size.result * c.size.result ≡ n * n = ap (λ m. let k : ℕ = m * m in k) c.size.ensures.lines in
    let low : c.loop-number.number < n * n =
    omega (arith, c.loop-number-test.true, c.points-number-end.ensures.value, square) in
    omega (
      arith,
      next_below (most_to_put c.args.grid.now) c.loop-number.number (n * n) (length c.loop-number.board.trace)
          (length c.put_stone.new.board.trace) (length c.args.board.now.trace + most_to_fill c.args.grid.now)
          low c.loop-number.invariant.writes c.put_stone.ensures.writes,
    )
