-- The counters of prisoners that a game keeps.
use Rattle.std.specs.Prelude.{ℕ}
use Rattle.go_board.specs.declared.colour.Colour.{Colour}
use Rattle.go_board.specs.declared.colour.Colour.TheVariants.{Black, White}
use Rattle.go_game.specs.declared.prisoners.Prisoners.{Prisoners}

-- the count for a colour
abbrev pub prisoners_in : Prisoners → Colour → ℕ
prisoners_in p Black = p.black
prisoners_in p White = p.white
