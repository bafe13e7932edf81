use Rattle.std.proofs.Common.{◌∙◌, ap, sym}
use Rattle.go_sgf.specs.Record.{TreeValue}
use Rattle.go_sgf.specs.View.{trees_of}
use Rattle.go_sgf.proofs.Growing.{tree_of-out}
use Rattle.go_sgf.proofs.record.Tree.children.Goals as goal

pub returns : goal.returns
returns g c = ap trees_of c.as_slice.ensures.value ∙ sym (ap (λ (t : TreeValue). t.1) (tree_of-out c.args.self.now))
