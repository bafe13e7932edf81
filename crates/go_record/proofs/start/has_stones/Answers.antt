use Rattle.std.proofs.Common.{◌≡◌, ◌∙◌, ◌<◌, ◌*◌, ℕ, sym, ap, arith}
use Rattle.std.specs.Prelude.{Some}
use Rattle.go_board.specs.Points.{number_of}
use Rattle.go_board.specs.Reaching.{has_colour}
use Rattle.go_record.proofs.Searches.{any_found, any_none}
use Rattle.go_record.proofs.start.has_stones.Goals as goal

pub returns-then-is_of : goal.returns-then-is_of
returns-then-is_of c =
    let n = c.args.grid.now.lines in
    let k = c.loop-number.number in
    let test = λ (j : ℕ). has_colour c.args.grid.now.colours j (Some c.args.colour) in
    let back : number_of n c.numbered.result ≡ k = rw c.size-size.ensures.lines at c.numbered.ensures.back in
    let low : k < n * n = omega (
      arith,
      c.loop-number-test.true,
      c.points-number-end.ensures.value,
      ap (λ (m : ℕ). m * m) c.size-size.ensures.lines,
    ) in
    sym (any_found test (n * n) k low (rw (c.get.ensures, back) at (sym c.is_of.ensures ∙ c.if-is_of.true)))

pub returns : goal.returns
returns c =
    let n = c.args.grid.now.lines in
    let test = λ (j : ℕ). has_colour c.args.grid.now.colours j (Some c.args.colour) in
    sym (any_none test (n * n) (λ q low. c.loop-number.invariant q
    (omega (
      arith,
      low,
      c.loop-number-test.false,
      c.points-number-end.ensures.value,
      ap (λ (m : ℕ). m * m) c.size-size.ensures.lines,
    ))))
