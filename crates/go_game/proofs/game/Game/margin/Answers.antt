use Rattle.std.proofs.Common.{arith, ◌*◌, ◌∙◌, ◌<◌, ℕ, ap, ap₂}
use Rattle.std.specs.Prelude.{pos, ◌-ℤ◌}
use Rattle.go_board.specs.declared.colour.Colour.TheVariants.{Black, White}
use Rattle.go_game.specs.Scores.{area_of}
use Rattle.go_game.specs.Standings.{GameValue}
use Rattle.go_game.proofs.Margins.{margin_is}
use Rattle.go_game.proofs.game.Game.margin.Goals as goal

pub returns : goal.returns
returns g c =
    let black : c.area-area.result.black < 65536 = omega arith in
    let white : c.area-area.result.white < 65536 = omega arith in
    margin_is c.area-area.result.black c.area-area.result.white c.self.inside.komi c.from-black.result
    c.from-white.result black white c.self.invariant.0.held.sound.komi c.from-black.ensures c.from-white.ensures
    ∙ ap₂ (λ (b w : ℕ). (pos (100 * b) -ℤ pos (100 * w)) -ℤ c.self.inside.komi) c.area-area.ensures.black
    c.area-area.ensures.white
    ∙ ap (λ (v : GameValue). (pos (100 * area_of c.args.self.now.standing Black) -ℤ pos
    (100 * area_of c.args.self.now.standing White)) -ℤ v.standing.komi) c.self.view_is
