-- Whether a move is legal, as a test.
use Rattle.std.specs.Prelude.{◌≡◌, ◌&&◌, nat_lt, Bool, true, false, not, None, Some, slice_set}
use Rattle.std.specs.List.{list_any}
use Rattle.std.specs.Cmp.Lexicographic.{pointwise}
use Rattle.go_board.specs.declared.colour.Colour.{Colour}
use Rattle.go_board.specs.declared.vertex.Vertex.{Vertex}
use Rattle.go_board.specs.declared.vertex.Vertex.TheVariants.{Pass, At}
use Rattle.go_board.specs.Colours.{Colouring}
use Rattle.go_board.specs.declared.point.Point.{Point}
use Rattle.go_board.specs.Grids.{stone_at}
use Rattle.go_board.specs.Points.{IsOn, number_of}
use Rattle.go_board.specs.Reaching.{has_colour, is_same}
use Rattle.go_game.specs.Standings.{Seen, Standing, after_vertex, board_of, present, seen_after, stood_of}

-- whether two colourings are the same
abbrev pub same_colours : Colouring → Colouring → Bool
same_colours g h = pointwise is_same g h

-- whether what is seen of two situations is the same
abbrev pub same_seen : Seen → Seen → Bool
same_seen x y = same_colours x.0 y.0 && is_same x.1 y.1

-- whether the rule saw it before
abbrev pub has_stood : Standing → Seen → Bool
has_stood s x = list_any (same_seen x) (stood_of s)

-- a pass, or an empty point of the board
abbrev pub is_open : Standing → Vertex → Bool
is_open s Pass = true
is_open s (At p) = (nat_lt p.col s.lines && nat_lt p.row s.lines) && has_colour (board_of s) (number_of s.lines p) None

-- whether a turn leaves what the rule saw before; a pass may
abbrev pub is_repeat : Standing → Colour → Vertex → Bool
is_repeat s c Pass = false
is_repeat s c (At p) = has_stood s (seen_after s c (number_of s.lines p))

-- a pass, or a play on an empty point of the board that leaves what the rule didn't see before
abbrev pub is_legal : Standing → Colour → Vertex → Bool
is_legal s c v = is_open s v && not (is_repeat s c v)

-- a play on an empty point of the board takes nothing, itself included: it leaves what was there with the stone
abbrev pub TakesNothing : Standing → Colour → Point → Type 0
TakesNothing s c p = IsOn s.lines p × (stone_at (present s) p ≡ None)
    × (after_vertex s.lines (board_of s) c (At p) ≡ slice_set (board_of s) (number_of s.lines p) (Some c))

-- a play on an empty point of the board takes stones
abbrev pub Takes : Standing → Colour → Vertex → Type 0
Takes s c Pass = ⊥
Takes s c (At p) = IsOn s.lines p × (stone_at (present s) p ≡ None)
    × (after_vertex s.lines (board_of s) c (At p) ≡ slice_set (board_of s) (number_of s.lines p) (Some c) → ⊥)
