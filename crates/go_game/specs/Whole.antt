-- Everything that a game holds, as a function of its standing.
use Rattle.std.specs.Prelude.{◌+◌, ℕ, List, [], ◌∷◌, Option, Some, None, if◌then◌else◌}
use Rattle.go_board.specs.declared.colour.Colour.{Colour}
use Rattle.go_board.specs.Colours.{Colouring}
use Rattle.go_board.specs.Chains.{Chain, chains}
use Rattle.go_game.specs.Legal.{same_seen}
use Rattle.go_game.specs.Standings.{Seen, Standing, board_of, mover_of, stood_of}
use Rattle.go_game.specs.Prisoners.{prisoners_of}

-- the first place where this was seen, counted from k
abbrev pub first_at : ℕ → List Seen → Seen → Option ℕ
first_at k [] x = None
first_at k (y ∷ ys) x = if same_seen y x then Some k else first_at (k + 1) ys x

-- the colouring, its chains with their liberties, the prisoners, the least number of moves after
-- which the rule saw each situation, the mover, and the standing itself
pub record WholeState : Type 0 where
  pub board : Colouring
  pub chains : List Chain
  pub prisoners : Colour → ℕ
  pub history : Seen → Option ℕ
  pub mover : Colour
  pub standing : Standing

abbrev pub whole_of : Standing → WholeState
whole_of s = record {
  board = board_of s;
  chains = chains s.lines (board_of s);
  prisoners = prisoners_of s;
  history = first_at 0 (stood_of s);
  mover = mover_of s;
  standing = s;
}
