use Rattle.std.proofs.Common.{◌≡◌, ◌++◌, [], List, length}
use Rattle.std.specs.List.{flat_map}
use Rattle.go_sgf.specs.MainLine.{IsLeft}
use Rattle.go_sgf.specs.Record.{Property}
use Rattle.go_record.specs.MainLine.{Event, move_event}
use Rattle.go_record.specs.inner.Progress.{IsAmongValues, Passes}
use Rattle.go_record.proofs.state.Walk.play_moves.Given as goal

abbrev pub invariant-loop-name : goal.invariant-loop-name
invariant-loop-name g l = (properties : List Property) (nodes : List (List Property)) →
    IsLeft l.fn.cursor [] properties nodes →
    (remaining : List Property) × IsAmongValues l.cursor remaining nodes
    × (done : List Event) × (done ++ flat_map (move_event l.node) remaining ≡ flat_map (move_event l.node) properties)
    × Passes (l.fn.self, l.fn.game) done (l.self, l.game)

abbrev pub decreases-loop-name : goal.decreases-loop-name
decreases-loop-name g l = length l.cursor
