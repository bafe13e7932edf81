-- The changes of each move of a game, from the changes of each play on its board.
use Rattle.std.specs.Prelude.{List, [], ◌∷◌}
use Rattle.go_board.specs.declared.vertex.Move.{Move}
use Rattle.go_board.specs.declared.vertex.Vertex.{Vertex}
use Rattle.go_board.specs.declared.vertex.Vertex.TheVariants.{Pass, At}
use Rattle.go_chains.specs.declared.change.Change.{Change}

-- the changes of a turn: none for a pass, and those of the first play otherwise
abbrev pub own_changes : Vertex → List (List Change) → List Change
own_changes Pass plays = []
own_changes (At p) [] = []
own_changes (At p) (changes ∷ plays) = changes

-- the plays after a turn
abbrev pub plays_after : Vertex → List (List Change) → List (List Change)
plays_after Pass plays = plays
plays_after (At p) [] = []
plays_after (At p) (changes ∷ plays) = plays

-- the changes of each move
abbrev pub changes_of : List Move → List (List Change) → List (List Change)
changes_of [] plays = []
changes_of (m ∷ moves) plays = own_changes m.vertex plays ∷ changes_of moves (plays_after m.vertex plays)
