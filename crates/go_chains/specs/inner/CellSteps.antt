-- What the steps of a play do to the cells of a board of n lines.
use Rattle.std.specs.Prelude.{ℕ, List, ◌≡◌, ◌≢◌, ◌<◌, ◌-◌, ◌*◌, ◌⊎◌, length}
use Rattle.go_board.specs.Colours.{Colouring}
use Rattle.go_board.specs.Paths.{IsAdjacent}
use Rattle.go_board.specs.declared.size.TheConstants.{MAX_POINTS}
use Rattle.go_chains.specs.Boards.{colouring_of}
use Rattle.go_chains.specs.Cells.{CellsValue, code_at, label_of, next_of, size_of}
use Rattle.go_board.specs.PointSets.{words_for}
use Rattle.go_chains.specs.inner.Steps.{CountsTaken, IsCapturing, IsConnected, IsConnectedTo, IsJoin, IsPlaced, IsRemoved}
use Rattle.go_chains.specs.inner.Tables.{IsDead, IsStone, IsTidy, AreChainsWhole, Tables, tables_of}
use Rattle.go_chains.specs.inner.Writes.{IsDeprived, IsFilled, IsGiven, IsGivenBeside, IsMerged, IsRelabelled, IsStoneBeside}

-- the cells hold together
abbrev pub AreTidy : ℕ → CellsValue → Type 0
AreTidy n cells = IsTidy (n * n) (IsAdjacent n) (tables_of cells.numbers)

-- neighbours of one colour are of one chain
abbrev pub AreWhole : ℕ → CellsValue → Type 0
AreWhole n cells = AreChainsWhole (n * n) (IsAdjacent n) (tables_of cells.numbers)

-- p holds a stone
abbrev pub HasStone : ℕ → CellsValue → ℕ → Type 0
HasStone n cells p = IsStone (n * n) (tables_of cells.numbers) p

-- each stone has one of two colours
abbrev pub HasTwoColours : ℕ → CellsValue → ℕ → ℕ → Type 0
HasTwoColours n cells taken rest = (s : ℕ) → HasStone n cells s → (code_at cells.numbers s ≡ taken)
    ⊎ (code_at cells.numbers s ≡ rest)

-- two numbers of colours, of which each stone has one
pub record AreColours (n : ℕ) (cells : CellsValue) (taken rest : ℕ) : Type 0 where
  pub taken_some : 0 < taken
  pub rest_some : 0 < rest
  pub apart : taken ≢ rest
  pub two : HasTwoColours n cells taken rest

-- where p has this colour its label names a point
abbrev pub FitsWith : CellsValue → ℕ → ℕ → Type 0
FitsWith cells colour p = code_at cells.numbers p ≡ colour → label_of cells.numbers p < MAX_POINTS

-- where p has a stone its label names a point
abbrev pub Fits : CellsValue → ℕ → Type 0
Fits cells p = 0 < code_at cells.numbers p → label_of cells.numbers p < MAX_POINTS

-- p gets a stone of a colour, which is a chain of its own
abbrev pub Occupies : ℕ → CellsValue → CellsValue → ℕ → ℕ → Type 0
Occupies n old new p colour = IsPlaced (n * n) (IsAdjacent n) (tables_of old.numbers) (tables_of new.numbers) p colour

-- the chain of b becomes part of the chain of a
abbrev pub Joins : ℕ → CellsValue → CellsValue → ℕ → ℕ → Type 0
Joins n old new a b = IsJoin (n * n) (tables_of old.numbers) (tables_of new.numbers) a b

-- the chain at p has taken in the one beside it, if that has its colour
abbrev pub Connects : ℕ → CellsValue → CellsValue → ℕ → ℕ → Type 0
Connects n old new p near = IsConnected (n * n) (tables_of old.numbers) (tables_of new.numbers) p near

-- the chain at p has taken in those at all listed points, as far as they have its colour
abbrev pub ConnectsAll : ℕ → CellsValue → CellsValue → ℕ → List ℕ → Type 0
ConnectsAll n old new p beside =
    IsConnectedTo (n * n) (tables_of old.numbers) (tables_of new.numbers) p beside (length beside)

-- the chain of r is taken off
abbrev pub Removes : ℕ → CellsValue → CellsValue → ℕ → Type 0
Removes n old new r = IsRemoved (n * n) (IsAdjacent n) (tables_of old.numbers) (tables_of new.numbers) r

-- some chains of a colour that had no liberty are taken off
abbrev pub Captures : ℕ → CellsValue → CellsValue → ℕ → Type 0
Captures n old new own = IsCapturing (n * n) (IsAdjacent n) (tables_of old.numbers) (tables_of new.numbers) own

-- where such chains were taken off before, more of them are
abbrev pub CapturesMore : ℕ → CellsValue → CellsValue → ℕ → Type 0
CapturesMore n old new own = (t : Tables) → IsTidy (n * n) (IsAdjacent n) t
    → IsCapturing (n * n) (IsAdjacent n) t (tables_of old.numbers) own →
    IsCapturing (n * n) (IsAdjacent n) t (tables_of new.numbers) own

-- p is empty now, if it had a stone of a colour in a chain with no liberty
abbrev pub TakesDead : ℕ → CellsValue → CellsValue → ℕ → ℕ → Type 0
TakesDead n old new own p = code_at old.numbers p ≡ own →
    IsDead (n * n) (tables_of old.numbers) (label_of old.numbers p) → code_at new.numbers p ≡ 0

-- `taken` stones of a colour are taken off
abbrev pub TakesStones : ℕ → CellsValue → CellsValue → ℕ → ℕ → Type 0
TakesStones n old new own taken = CountsTaken (n * n) (tables_of old.numbers) (tables_of new.numbers) own taken

-- the first `count` points of a ring from a point have a new label
abbrev pub Relabels : CellsValue → CellsValue → ℕ → ℕ → ℕ → Type 0
Relabels old new from count to = IsRelabelled (next_of old.numbers) old.numbers new.numbers from count to

-- one label has the liberties of two, as many words of them as the board has
abbrev pub Merges : ℕ → CellsValue → CellsValue → ℕ → ℕ → Type 0
Merges n old new kept gone = IsMerged old.numbers new.numbers kept gone (words_for (n * n))

-- the words of one label's liberties are as given, as many as the board has
abbrev pub Fills : ℕ → CellsValue → CellsValue → ℕ → List ℕ → Type 0
Fills n old new label words = IsFilled old.numbers new.numbers label words (words_for (n * n))

-- a point is no liberty any more of the stone at another, if one is there
abbrev pub DeprivesAt : CellsValue → CellsValue → ℕ → ℕ → Type 0
DeprivesAt old new point near =
    IsDeprived old.numbers new.numbers point (λ l. (0 < code_at old.numbers near) × (label_of old.numbers near ≡ l))

-- a point is no liberty any more of the stones at the listed ones
abbrev pub DeprivesAll : CellsValue → CellsValue → ℕ → List ℕ → Type 0
DeprivesAll old new point beside =
    IsDeprived old.numbers new.numbers point (IsStoneBeside old.numbers beside (length beside))

-- a point is a liberty too of the stone at another, if one of this colour is there
abbrev pub GivesAt : CellsValue → CellsValue → ℕ → ℕ → ℕ → Type 0
GivesAt old new point near colour =
    IsGiven old.numbers new.numbers point (λ l. (code_at old.numbers near ≡ colour) × (label_of old.numbers near ≡ l))

-- a point is a liberty too of the stones of this colour at the listed ones
abbrev pub GivesAll : CellsValue → CellsValue → ℕ → List ℕ → ℕ → Type 0
GivesAll old new point beside colour =
    IsGiven old.numbers new.numbers point (IsGivenBeside old.numbers beside colour (length beside))

-- how many stones the chain of a stone has
abbrev pub chain_size : List ℕ → ℕ → ℕ
chain_size cells p = size_of cells (label_of cells p)

-- how many stones the chain of a stone has gained
abbrev pub growth : CellsValue → CellsValue → ℕ → ℕ
growth old new p = chain_size new.numbers p - chain_size old.numbers p

-- the colouring that the cells of a board of n lines say
abbrev pub colours_in : ℕ → CellsValue → Colouring
colours_in n cells = colouring_of n cells.numbers
