use Rattle.std.proofs.Common.{arith, ◌≡◌, ◌*◌, ◌∙◌, ℕ, ap, refl, sym, rules}
use Rattle.go_board.proofs.Equal.{equal_grids}
use Rattle.go_board.proofs.grid.Grid.is_same_as.Goals as goal

pub returns : goal.returns
returns c =
    let lines : c.size-size.result ≡ c.size.result = sym c.lines-2.ensures.value ∙ sym c.if-lines.false
    ∙ c.lines.ensures.value in
    let same : c.args.self.now.lines ≡ c.args.other.now.lines = sym c.size-size.ensures.lines ∙ lines
    ∙ c.size.ensures.lines in
    let n = c.size-size.result in
    let other_whole = c.size.ensures.whole ∙ ap (λ (m : ℕ). m * m) (sym lines) in (
      λ e. equal_grids (n * n) c.args.self.now c.args.other.now same c.size-size.ensures.whole other_whole
          (λ k low. c.loop-number.invariant k
          (omega (arith, low, c.loop-number-test.false, c.points-number-end.ensures.value))),
      λ e. refl,
    )

pub loop-number-preserved : goal.loop-number-preserved
loop-number-preserved c = search rules
