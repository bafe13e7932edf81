-- What turns take from the board.
use Rattle.std.specs.Prelude.{ℕ, ◌+◌, List, [], ◌∷◌, Some, slice_set}
use Rattle.go_board.specs.declared.colour.Colour.{Colour}
use Rattle.go_board.specs.declared.colour.Colour.TheVariants.{Black, White}
use Rattle.go_board.specs.declared.taken.Taken.{Taken}
use Rattle.go_board.specs.declared.vertex.Move.{Move}
use Rattle.go_board.specs.declared.vertex.Vertex.{Vertex}
use Rattle.go_board.specs.declared.vertex.Vertex.TheVariants.{Pass, At}
use Rattle.go_board.specs.Colours.{Colouring}
use Rattle.go_board.specs.Points.{number_of}
use Rattle.go_board.specs.Reaching.{moved, vanished}
use Rattle.go_game.specs.Standings.{Standing, after_move, board_of}

-- how many stones of a colour the turn takes, the one placed among them
abbrev pub taken_by : ℕ → Colouring → Colour → Vertex → Colour → ℕ
taken_by n g c Pass of = 0
taken_by n g c (At p) of = vanished n (slice_set g (number_of n p) (Some c)) (moved n g c (number_of n p)) of

abbrev pub stones_taken : Standing → Colour → Vertex → Colour → ℕ
stones_taken s c v of = taken_by s.lines (board_of s) c v of

-- the stones of a colour that all turns took
abbrev pub prisoners_from : ℕ → Colouring → List Move → Colour → ℕ
prisoners_from n g [] of = 0
prisoners_from n g (m ∷ moves) of = taken_by n g m.colour m.vertex of + prisoners_from n (after_move n g m) moves of

abbrev pub prisoners_of : Standing → Colour → ℕ
prisoners_of s of = prisoners_from s.lines s.start s.moves of

-- the stones of a colour among those that a move took
abbrev pub share_of : Colour → Taken → Colour → ℕ
share_of Black taken Black = taken.own
share_of Black taken White = taken.theirs
share_of White taken Black = taken.theirs
share_of White taken White = taken.own
