use Rattle.std.proofs.Common.{◌-◌, length}
use Rattle.go_history.proofs.Trees.{Went}
use Rattle.go_history.proofs.key_tree.find.Given as goal

abbrev pub invariant-loop-at : goal.invariant-loop-at
invariant-loop-at g l = Went l.entries.list l.links l.hashed l.depth l.at l.link

abbrev pub decreases-loop-at : goal.decreases-loop-at
decreases-loop-at g l = length l.entries.list - l.at
