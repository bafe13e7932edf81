use Rattle.std.proofs.Common.{◌≡◌, ◌≤◌, ◌++◌, [], List, length}
use Rattle.std.specs.List.{flat_map}
use Rattle.go_game.specs.Standings.{GameValue}
use Rattle.go_sgf.specs.MainLine.{IsLeft}
use Rattle.go_sgf.specs.Record.{Property}
use Rattle.go_record.specs.MainLine.{Event, move_event, setup_event}
use Rattle.go_record.specs.inner.Progress.{AreMoves, IsAmongValues, Passes}
use Rattle.go_record.proofs.state.Walk.visit_properties.Given as goal

abbrev pub invariant-loop-name : goal.invariant-loop-name
invariant-loop-name l = record {
  onward : length l.cursor ≤ length l.fn.cursor;
  passed : (properties : List Property) (nodes : List (List Property)) → IsLeft l.fn.cursor [] properties nodes →
      (remaining : List Property) × IsAmongValues l.cursor remaining nodes
      × (done : List Event) × (done ++ flat_map (setup_event l.node) remaining ≡ flat_map (setup_event l.node) properties)
      × ((game : GameValue) → Passes (l.fn.self, game) done (l.self, game))
      × (met : List Event) × (met ++ flat_map (move_event l.node) remaining ≡ flat_map (move_event l.node) properties)
      × AreMoves l.node l.moves met;
}

abbrev pub decreases-loop-name : goal.decreases-loop-name
decreases-loop-name l = length l.cursor
