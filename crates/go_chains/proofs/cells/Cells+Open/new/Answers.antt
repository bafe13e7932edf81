use Rattle.go_chains.specs.declared.cells.TheConstants.{CELLS}
use Rattle.go_chains.proofs.answers.Packs.{pack_of_zeros}
use Rattle.go_chains.proofs.cells.Cells+Open.new.Goals as goal

pub invariant_of-result : goal.invariant_of-result
invariant_of-result c =
    pack_of_zeros CELLS c.new-numbers.result c.new.result c.new-numbers.ensures c.new.ensures
