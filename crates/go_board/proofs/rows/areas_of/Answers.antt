use Rattle.go_board.specs.declared.colour.Colour.TheVariants.{Black, White}
use Rattle.go_board.proofs.rows.areas_of.Goals as goal

pub returns-clause-black : goal.returns-clause-black
returns-clause-black c g black white =
    c.count_alone.ensures g Black (c.held-black_held.ensures g Black black white)
    (c.held-white_held.ensures g White white black)

pub returns-clause-white : goal.returns-clause-white
returns-clause-white c g black white =
    c.count_alone-2.ensures g White (c.held-white_held.ensures g White white black)
    (c.held-black_held.ensures g Black black white)
