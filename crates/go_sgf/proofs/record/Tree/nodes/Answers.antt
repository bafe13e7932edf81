use Rattle.std.proofs.Common.{◌∙◌, ap, sym}
use Rattle.go_sgf.specs.Record.{TreeValue}
use Rattle.go_sgf.proofs.Growing.{tree_of-out}
use Rattle.go_sgf.proofs.record.Tree.nodes.Goals as goal

pub returns-clause-nodes : goal.returns-clause-nodes
returns-clause-nodes g c = c.as_slice.ensures.nodes ∙ sym (ap (λ (t : TreeValue). t.0) (tree_of-out c.args.self.now))
