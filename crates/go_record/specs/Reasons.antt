-- Why a record has no game, as a text.
use Rattle.std.specs.Prelude.{ℕ, List, ◌++◌, codes}
use Rattle.std.specs.Fmt.{decimal}
use Rattle.go_game.specs.declared.error.PlayError.{PlayError}
use Rattle.go_game.specs.declared.error.PlayError.TheVariants.{Occupied, OffBoard, Repeats, Memory}
use Rattle.go_board.specs.Vertices.{vertex_word}
use Rattle.go_board.specs.declared.vertex.Vertex.TheVariants.{At}
use Rattle.go_record.specs.declared.error.RecordError.{RecordError}
use Rattle.go_record.specs.declared.error.RecordError.TheVariants as error

-- why a move isn't legal, after the move
abbrev pub reason_text : PlayError → List ℕ
reason_text Occupied = codes "is on a stone"
reason_text OffBoard = codes "is off the board"
reason_text (Repeats k) = codes "repeats the position after " ++ (decimal k ++ codes " moves")
reason_text Memory = codes "found no memory"

abbrev pub record_error_text : RecordError → List ℕ
record_error_text error.NotGo = codes "not a Go record"
record_error_text error.BadSize = codes "bad board size"
record_error_text error.BadKomi = codes "bad komi"
record_error_text (error.BadValue node) = codes "bad value in node " ++ decimal node
record_error_text (error.SetupAfterMove node) = codes "set-up after a move in node " ++ decimal node
record_error_text (error.DeadSetup p) = codes "set-up without liberty at " ++ vertex_word (At p)
record_error_text (error.Illegal number why) = codes "move " ++ (decimal number ++ (codes " " ++ reason_text why))
record_error_text error.Memory = codes "out of memory"
