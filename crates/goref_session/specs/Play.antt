-- play, genmove, reg_genmove, undo and goref-legal: the moves of a game.
use Rattle.std.specs.Prelude.{◌≡◌, ◌⊎◌, if◌then◌else◌, List, [], ◌∷◌, Option, Some, None}
use Rattle.go_board.specs.declared.colour.Colour.{Colour}
use Rattle.go_board.specs.declared.vertex.Move.{Move}
use Rattle.go_board.specs.declared.vertex.Vertex.{Vertex}
use Rattle.go_game.specs.Choices.{chosen}
use Rattle.go_game.specs.Legal.{is_legal}
use Rattle.go_game.specs.Standings.{IsOccupied, IsOffBoard, Standing, with_move, without_last}
use Rattle.goref_session.specs.Decisions.{Decided, comes_to, keeps}
use Rattle.goref_session.specs.declared.decision.Decision.TheVariants.{Tells, Refused}
use Rattle.goref_session.specs.declared.decision.Fact.TheVariants.{Choice, Plays}
use Rattle.goref_session.specs.declared.decision.Refusal.TheVariants.{SyntaxError, IllegalMove, CannotUndo, OutOfMemory}
use Rattle.goref_results.specs.Plays.{marked_plays}

-- a move, where it is legal
abbrev pub decided_move : Standing → Colour → Vertex → Decided
decided_move s c v =
    if is_legal s c v then comes_to (with_move s (record { colour = c; vertex = v }))
    else keeps s (Refused IllegalMove)

-- `play`: the move of a colour at a vertex
abbrev pub decided_play : Standing → Option Colour → Option Vertex → Decided
decided_play s None vertex = keeps s (Refused SyntaxError)
decided_play s (Some c) None = keeps s (Refused SyntaxError)
decided_play s (Some c) (Some v) = decided_move s c v

-- a move that may run out of memory: one that is neither off the board nor on a stone
abbrev pub LacksMemoryAt : Standing → Option Colour → Option Vertex → Type 0
LacksMemoryAt s None vertex = ⊥
LacksMemoryAt s (Some c) None = ⊥
LacksMemoryAt s (Some c) (Some v) = (IsOffBoard s v → ⊥) × (IsOccupied s v → ⊥)

-- what may be decided on a move: what the rules say, or a refusal by lack of memory where that is allowed
abbrev pub DecidesPlay : Standing → Option Colour → Option Vertex → Decided → Type 0
DecidesPlay s c v d = (d ≡ decided_play s c v) ⊎ (LacksMemoryAt s c v × (d ≡ keeps s (Refused OutOfMemory)))

-- `genmove`: the plain choice for a colour is played
abbrev pub decided_genmove : Standing → Option Colour → Decided
decided_genmove s None = keeps s (Refused SyntaxError)
decided_genmove s (Some c) =
    record {
      decision = Tells (Choice (chosen s c));
      standing = with_move s (record { colour = c; vertex = chosen s c });
    }

-- `reg_genmove`: the plain choice for a colour, which isn't played
abbrev pub decided_choice : Standing → Option Colour → Decided
decided_choice s None = keeps s (Refused SyntaxError)
decided_choice s (Some c) = keeps s (Tells (Choice (chosen s c)))

-- `undo`: the last of these moves is taken back
abbrev pub decided_undo : Standing → List Move → Decided
decided_undo s [] = keeps s (Refused CannotUndo)
decided_undo s (m ∷ moves) = comes_to (without_last 1 s)

-- `goref-legal`: the legal plays of a colour
abbrev pub decided_legal : Standing → Option Colour → Decided
decided_legal s None = keeps s (Refused SyntaxError)
decided_legal s (Some c) = keeps s (Tells (Plays (marked_plays s c)))
