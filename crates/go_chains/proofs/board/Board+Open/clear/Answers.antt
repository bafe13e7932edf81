use Rattle.std.proofs.Common.{arith}
use Rattle.go_chains.proofs.answers.Queries.{IsKept-empty, colouring-empty}
use Rattle.go_chains.proofs.board.Board+Open.clear.Goals as goal

pub invariant_of-self : goal.invariant_of-self
invariant_of-self c =
    IsKept-empty c.args.size c.empty_points.new.cells.numbers
    (λ p p_in. c.empty_points.ensures.empty p (omega (arith, p_in, c.from.ensures, c.points.ensures.value)))
    (omega arith)

pub returns-clause-colours : goal.returns-clause-colours
returns-clause-colours c =
    colouring-empty c.args.size c.empty_points.new.cells.numbers
    (λ p p_in. c.empty_points.ensures.empty p (omega (arith, p_in, c.from.ensures, c.points.ensures.value)))

pub returns-clause-kept : goal.returns-clause-kept
returns-clause-kept c =
    IsKept-empty c.args.size c.empty_points.new.cells.numbers
    (λ p p_in. c.empty_points.ensures.empty p (omega (arith, p_in, c.from.ensures, c.points.ensures.value)))
    (omega arith)
