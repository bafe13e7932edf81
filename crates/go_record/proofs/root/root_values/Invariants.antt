use Rattle.std.proofs.Common.{List, length}
use Rattle.go_sgf.specs.Record.{Property}
use Rattle.go_sgf.specs.Spelling.{OfRecord}
use Rattle.go_record.specs.inner.Progress.{AreFoundOf, IsAmongValues}
use Rattle.go_record.proofs.root.root_values.Given as goal

abbrev pub invariant-loop-name : goal.invariant-loop-name
invariant-loop-name l = OfRecord l.checked
    (λ t. (remaining : List Property) × (nodes : List (List Property)) × IsAmongValues l.cursor remaining nodes
    × AreFoundOf l.found remaining t)

abbrev pub decreases-loop-name : goal.decreases-loop-name
decreases-loop-name l = length l.cursor
