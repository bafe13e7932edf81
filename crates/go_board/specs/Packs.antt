-- A colouring in bytes, two bits a point.
use Rattle.std.specs.Prelude.{ℕ, zero, suc, ◌+◌, ◌*◌, List, Option, None, Some, map}
use Rattle.std.specs.List.{range_with_len}
use Rattle.go_board.specs.declared.colour.Colour.{Colour}
use Rattle.go_board.specs.declared.colour.Colour.TheVariants.{Black, White}
use Rattle.go_board.specs.declared.pack.TheConstants.{PACK_BYTES}
use Rattle.go_board.specs.Colours.{Colouring, colour_at}

-- the number of a point's colour: two bits
abbrev pub code_of : Option Colour → ℕ
code_of None = 0
code_of (Some Black) = 1
code_of (Some White) = 2

-- the colour of such a number; any other is an empty point
abbrev pub colour_coded : ℕ → Option Colour
colour_coded zero = None
colour_coded (suc zero) = Some Black
colour_coded (suc (suc zero)) = Some White
colour_coded (suc (suc (suc k))) = None

-- the byte of four points, the first lowest; a point past the board counts as empty
abbrev pub byte_of : Colouring → ℕ → ℕ
byte_of g i = code_of (colour_at g (4 * i)) + 4 * code_of (colour_at g (4 * i + 1))
    + 16 * (code_of (colour_at g (4 * i + 2)) + 4 * code_of (colour_at g (4 * i + 3)))

-- the bytes of the points in point order
unfoldable pub packed_of : Colouring → List ℕ
packed_of g = map (byte_of g) (range_with_len 0 PACK_BYTES)
