-- What marks of points that reach a colour say of its area.
use Rattle.std.specs.Prelude.{◌&&◌, ℕ, Bool, not, nat_eq, Option, Some, None}
use Rattle.std.specs.Int.{bit_at}
use Rattle.go_board.specs.declared.colour.Colour.{Colour}
use Rattle.go_board.specs.Reaching.{is_same}

-- a stone counts for its colour, an empty point for a colour that it reaches alone
abbrev pub is_area_marked : Option Colour → Colour → Bool → Bool → Bool
is_area_marked None colour own theirs = own && not theirs
is_area_marked (Some stone) colour own theirs = is_same (Some stone) (Some colour)

-- the one word has the column and the other has not
abbrev pub is_alone : ℕ → ℕ → ℕ → Bool
is_alone own theirs col = nat_eq (bit_at own col) 1 && not (nat_eq (bit_at theirs col) 1)
