use Rattle.std.proofs.Common.{rules}
use Rattle.go_sgf.proofs.Rectangles.{rectangle_on}
use Rattle.go_sgf.proofs.points.points_in.Goals as goal

pub returns-in_ok-to-in-Some-clause-on : goal.returns-in_ok-to-in-Some-clause-on
returns-in_ok-to-in-Some-clause-on c =
    let n = c.args.size in
    let from = c.in_ok-from-in-Some.from in
    let to = c.in_ok-to-in-Some.to in
    rw (c.between.ensures n c.in_ok-from-in-Some.ensures.on c.in_ok-to-in-Some.ensures.on) (rectangle_on n from to)

pub returns-in-None-clause-value : goal.returns-in-None-clause-value
returns-in-None-clause-value c = search rules
