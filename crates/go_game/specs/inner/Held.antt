-- What the body of a game keeps beside its start and its moves: what each move took, a board that went through them,
-- the log of its plays, and the history.
use Rattle.std.specs.Prelude.{◌≡◌, ◌*◌, ℕ, ℤ, List, [], ◌∷◌, None, map}
use Rattle.go_board.specs.declared.colour.Colour.{Colour}
use Rattle.go_board.specs.declared.colour.Colour.TheVariants.{Black, White}
use Rattle.go_board.specs.declared.vertex.Move.{Move}
use Rattle.go_board.specs.declared.vertex.Vertex.{Vertex}
use Rattle.go_board.specs.declared.vertex.Vertex.TheVariants.{Pass, At}
use Rattle.go_board.specs.Colours.{Colouring, colour_at}
use Rattle.go_board.specs.Grids.{GridValue}
use Rattle.go_board.specs.Points.{IsOn, number_of}
use Rattle.go_chains.specs.declared.change.Change.{Change}
use Rattle.go_chains.specs.Sound.{IsKept}
use Rattle.go_chains.specs.Boards.{BoardValue, colouring_of}
use Rattle.go_history.specs.Histories.{HistoryValue}
use Rattle.go_game.specs.declared.step.Step.{Step}
use Rattle.go_game.specs.declared.superko.Superko.{Superko}
use Rattle.go_game.specs.inner.Histories.{StandsFor}
use Rattle.go_game.specs.Standings.{IsSound, Standing, after_move, stood_of}
use Rattle.go_game.specs.Prisoners.{share_of, prisoners_of, taken_by}
use Rattle.go_game.specs.inner.Trails.{WentThrough}

abbrev pub made_of : Step → Move
made_of s = s.made

-- a pass, or a play on an empty point of the board
abbrev pub IsPlayable : ℕ → Colouring → Vertex → Type 0
IsPlayable n g Pass = Unit {0}
IsPlayable n g (At p) = IsOn n p × (colour_at g (number_of n p) ≡ None)

-- what the step took is what its move takes
pub record IsPlayed (n : ℕ) (g : Colouring) (s : Step) : Type 0 where
  pub playable : IsPlayable n g s.made.vertex
  pub taken : (of : Colour) → share_of s.made.colour s.taken of ≡ taken_by n g s.made.colour s.made.vertex of

-- so for each step, one after the other
abbrev pub ArePlayed : ℕ → Colouring → List Step → Type 0
ArePlayed n g [] = Unit {0}
ArePlayed n g (s ∷ steps) = IsPlayed n g s × ArePlayed n (after_move n g s.made) steps

-- what there is before the first move: the size, the stones, the komi in hundredths, the superko rule, and who moves
-- first
pub record Start : Type 0 where
  pub lines : ℕ
  pub colours : Colouring
  pub komi : ℤ
  pub rule : Superko
  pub first : Colour

abbrev pub start_of : Superko → GridValue → ℤ → Colour → Start
start_of rule grid komi first =
    record { lines = grid.lines; colours = grid.colours; komi = komi; rule = rule; first = first }

-- the standing of a start and the steps
abbrev pub standing_of : Start → List Step → Standing
standing_of s steps = record {
  lines = s.lines;
  komi = s.komi;
  rule = s.rule;
  start = s.colours;
  first = s.first;
  moves = map made_of steps;
}

-- the board went through the moves from cells that say the start
pub record IsTracked (n : ℕ) (start : Colouring) (moves : List Move) (board : BoardValue) (log : List (List Change)) :
    Type 0 where
  pub lines : board.lines ≡ n
  pub first : List ℕ
  pub kept : IsKept n first
  pub begun : colouring_of n first ≡ start
  pub went : WentThrough n first moves log board.cells

-- the steps are those of a sound standing, and the counts are its prisoners
pub record IsHeld (start : Start) (steps : List Step) (black white : ℕ) : Type 0 where
  pub played : ArePlayed start.lines start.colours steps
  pub sound : IsSound (standing_of start steps)
  pub black_taken : black ≡ prisoners_of (standing_of start steps) Black
  pub white_taken : white ≡ prisoners_of (standing_of start steps) White

-- all that a game keeps
pub record IsKeeping (start : Start) (steps : List Step) (board : BoardValue) (log : List (List Change))
    (history : HistoryValue) (black white : ℕ) : Type 0 where
  pub held : IsHeld start steps black white
  pub tracked : IsTracked start.lines start.colours (map made_of steps) board log
  pub seen : StandsFor (start.lines * start.lines) history (stood_of (standing_of start steps))
