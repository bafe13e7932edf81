use Rattle.std.proofs.Common.{arith, ◌≡◌, ◌∙◌, ℕ, List, All, sym, ap, subst}
use Rattle.go_board.specs.declared.point.Point.{Point}
use Rattle.go_board.specs.Points.{IsOn}
use Rattle.go_game.specs.Handicaps.{handicap_points}
use Rattle.go_game.proofs.HandicapPlaces.{big_enough, handicap_on}
use Rattle.go_game.proofs.handicap.fixed_points.Goals as goal

pub returns-clause-on : goal.returns-clause-on
returns-clause-on c =
    let n = c.args.size in
    let points : c.points_of.result.items ≡ handicap_points n c.args.number = c.points_of.ensures
    ∙ ap (λ (m : ℕ). handicap_points m c.args.number) c.lines.ensures.value in
    subst (λ (ps : List Point). All (IsOn n) ps) (sym points)
    (handicap_on n (big_enough n c.args.number (omega (arith, c.if-number-lt2.false))
    (omega (arith, c.if-greatest_handicap-number.false, c.greatest_handicap.ensures))) c.args.number)
