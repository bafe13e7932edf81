use Rattle.std.proofs.Common.{arith}
use Rattle.go_chains.specs.declared.cells.TheConstants.{CELLS}
use Rattle.go_chains.proofs.answers.Queries.{IsKept-empty, colouring-empty, zero_cell}
use Rattle.go_chains.proofs.board.Board+Open.new.Goals as goal

pub invariant_of-result : goal.invariant_of-result
invariant_of-result c = IsKept-empty c.args.size c.new.result.numbers
    (λ p p_in. zero_cell CELLS c.new.result.numbers c.new.ensures.numbers p) (omega arith)

pub returns-clause-colours : goal.returns-clause-colours
returns-clause-colours c = colouring-empty c.args.size c.new.result.numbers
    (λ p p_in. zero_cell CELLS c.new.result.numbers c.new.ensures.numbers p)

pub returns-clause-kept : goal.returns-clause-kept
returns-clause-kept c = IsKept-empty c.args.size c.new.result.numbers
    (λ p p_in. zero_cell CELLS c.new.result.numbers c.new.ensures.numbers p) (omega arith)
