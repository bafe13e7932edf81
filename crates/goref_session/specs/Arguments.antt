-- What the arguments of a command spell: nothing where there is none at a place, or it spells no such thing.
use Rattle.std.specs.Prelude.{ℕ, ℤ, List, Option, slice_get}
use Rattle.std.specs.Option.{option_and_then}
use Rattle.go_board.specs.declared.colour.Colour.{Colour}
use Rattle.go_board.specs.declared.vertex.Vertex.{Vertex}
use Rattle.go_board.specs.Colours.{colour_named}
use Rattle.go_board.specs.Decimals.{int_of}
use Rattle.go_board.specs.Vertices.{vertex_of}
use Rattle.go_game.specs.declared.superko.Superko.{Superko}
use Rattle.go_sgf.specs.Numbers.{hundredths_by}
use Rattle.goref_session.specs.Setup.{rule_of}

abbrev pub int_given : List (List ℕ) → ℕ → Option ℕ
int_given arguments place = option_and_then int_of (slice_get arguments place)

abbrev pub colour_given : List (List ℕ) → ℕ → Option Colour
colour_given arguments place = option_and_then colour_named (slice_get arguments place)

abbrev pub vertex_given : List (List ℕ) → ℕ → Option Vertex
vertex_given arguments place = option_and_then vertex_of (slice_get arguments place)

abbrev pub komi_given : List (List ℕ) → ℕ → Option ℤ
komi_given arguments place = option_and_then hundredths_by (slice_get arguments place)

abbrev pub rule_given : List (List ℕ) → ℕ → Option Superko
rule_given arguments place = option_and_then rule_of (slice_get arguments place)
