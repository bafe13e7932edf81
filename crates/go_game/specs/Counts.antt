-- The cells of a game's board, the changes of each move, and how many reads and writes they took.
use Rattle.std.specs.Prelude.{◌≡◌, ◌≤◌, ◌+◌, ◌*◌, ◌++◌, ◌∷◌, ◌⊎◌, [], ℕ, zero, suc, List, None, Result, Err, OnErr, OnOk, count_by, length, not, sum_by}
use Rattle.go_board.specs.declared.colour.Colour.{Colour}
use Rattle.go_board.specs.declared.vertex.Move.{Move}
use Rattle.go_board.specs.declared.vertex.Vertex.{Vertex}
use Rattle.go_board.specs.declared.vertex.Vertex.TheVariants.{Pass, At}
use Rattle.go_board.specs.Grids.{GridValue}
use Rattle.go_board.specs.Points.{number_of}
use Rattle.go_board.specs.Reaching.{has_colour, points}
use Rattle.go_chains.specs.declared.change.Change.{Change}
use Rattle.go_chains.specs.Playing.{most_of, reads_around}
use Rattle.go_chains.specs.Rewound.{rewound, undone}
use Rattle.go_game.specs.declared.error.PlayError.{PlayError}
use Rattle.go_game.specs.declared.error.PlayError.TheVariants.{Occupied, OffBoard}
use Rattle.go_game.specs.Standings.{GameValue, Standing, board_of}

-- the most changes that a play makes on the point with this number
abbrev pub most_on : Standing → Colour → ℕ → ℕ
most_on s c p = most_of s.lines (board_of s) c p

-- the most changes that a turn makes: a pass makes none
abbrev pub most_for : Standing → Colour → Vertex → ℕ
most_for s c Pass = 0
most_for s c (At p) = most_on s c (number_of s.lines p)

-- the same of plays on all points, one on each, together
abbrev pub most_on_all : Standing → Colour → ℕ
most_on_all s c = sum_by (most_on s c) (points s.lines)

-- how many stones a grid has
abbrev pub stones_in : GridValue → ℕ
stones_in g = count_by (λ p. not (has_colour g.colours p None)) (points g.lines)

-- the most writes that put the stones of a grid on a board, by plays that take none
abbrev pub most_to_fill : GridValue → ℕ
most_to_fill g = stones_in g * (128 + 8 * stones_in g)

-- the game is as it was, the count at least, and each write to the cells was counted
pub record IsAsBefore (old new : GameValue) : Type 0 where
  pub standing : new.standing ≡ old.standing
  pub cells : new.cells ≡ old.cells
  pub changes : new.changes ≡ old.changes
  pub onward : old.count ≤ new.count
  pub counted : old.count + length new.trace ≤ new.count + length old.trace

-- a turn's changes came after those of the earlier moves: at most `most`, each of them counted; they are all writes to
-- the cells, and put back they give the cells before it
pub record IsLogged (old new : GameValue) (most : ℕ) : Type 0 where
  pub own : List Change
  pub gained : new.changes ≡ old.changes ++ own ∷ []
  pub traced : new.trace ≡ old.trace ++ own
  pub back : rewound new.cells own ≡ old.cells
  pub few : length own ≤ most
  pub ticked : old.count + length own ≤ new.count

-- the reads that a turn has to spare: those of a look around its point
abbrev pub spare_for : Vertex → ℕ
spare_for Pass = 0
spare_for (At p) = reads_around

-- What a turn does to a game beside its standing: a refused one leaves the game as it was, and one that is made is
-- logged.
-- The reads and writes of the play are counted, at most three times the most changes, and four times where it was
-- taken back. The look whether the point is empty isn't counted, nor are those that make the key of the board after it.
-- Off the board, and on a stone, nothing is counted or written.
pub record TurnCosts {A : Type 0} (made : Move) (result : Result A PlayError) (old new : GameValue) : Type 0 where
  pub err : OnErr result (IsAsBefore old new)
  pub logged : OnOk result (IsLogged old new (most_for old.standing made.colour made.vertex))
  pub count : OnOk result (new.count + spare_for made.vertex
      ≤ old.count + 3 * most_for old.standing made.colour made.vertex)
  pub refused : OnErr result (new.count + spare_for made.vertex
      ≤ old.count + 4 * most_for old.standing made.colour made.vertex)
  pub writes : OnErr result (length new.trace
      ≤ length old.trace + 2 * most_for old.standing made.colour made.vertex)
  pub idle : (result ≡ Err OffBoard) ⊎ (result ≡ Err Occupied) → new ≡ old

-- the last move's changes were put back, each at one tick, nothing else was written, and those of the
-- earlier moves stay
pub record IsTakenBack (old new : GameValue) : Type 0 where
  pub own : List Change
  pub lost : old.changes ≡ new.changes ++ own ∷ []
  pub cells : new.cells ≡ rewound old.cells own
  pub traced : new.trace ≡ old.trace ++ undone old.cells own
  pub count : new.count ≡ old.count + length own

-- a number of moves were played, one after the other
abbrev pub AreLogged : ℕ → GameValue → GameValue → Type 0
AreLogged zero old new = old ≡ new
AreLogged (suc n) old new = (mid : GameValue) × AreLogged n old mid × (most : ℕ) × IsLogged mid new most

-- a number of moves were taken back
abbrev pub AreTakenBack : ℕ → GameValue → GameValue → Type 0
AreTakenBack zero old new = old ≡ new
AreTakenBack (suc n) old new = (mid : GameValue) × IsTakenBack old mid × AreTakenBack n mid new
