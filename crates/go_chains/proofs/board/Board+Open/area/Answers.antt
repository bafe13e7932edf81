use Rattle.std.proofs.Common.{arith, ◌≡◌, ◌∙◌, ℕ, ap, subst, sym}
use Rattle.go_board.specs.Reaching.{area}
use Rattle.go_board.specs.Rows.{AreStones}
use Rattle.go_board.specs.declared.colour.Colour.TheVariants.{Black, White}
use Rattle.go_chains.specs.Boards.{grid_of}
use Rattle.go_chains.proofs.board.Board+Open.area.Goals as goal

pub returns-clause-black : goal.returns-clause-black
returns-clause-black c =
    let here = grid_of c.args.self.now in
    let is : c.args.self.now.lines ≡ c.from.result =
    omega (arith, c.size.ensures.lines, c.lines.ensures, c.from.ensures) in
    let black = subst (λ (n : ℕ). AreStones n here Black c.stones-stones.result.black) is
    c.stones-stones.ensures.black in
    let white = subst (λ (n : ℕ). AreStones n here White c.stones-stones.result.white) is
    c.stones-stones.ensures.white in
    c.areas_of.ensures.black here black white ∙ ap (λ n. area n here Black) (sym is)

pub returns-clause-white : goal.returns-clause-white
returns-clause-white c =
    let here = grid_of c.args.self.now in
    let is : c.args.self.now.lines ≡ c.from.result =
    omega (arith, c.size.ensures.lines, c.lines.ensures, c.from.ensures) in
    let black = subst (λ (n : ℕ). AreStones n here Black c.stones-stones.result.black) is
    c.stones-stones.ensures.black in
    let white = subst (λ (n : ℕ). AreStones n here White c.stones-stones.result.white) is
    c.stones-stones.ensures.white in
    c.areas_of.ensures.white here black white ∙ ap (λ n. area n here White) (sym is)
