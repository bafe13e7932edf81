-- The stones of the chains that are written already.
use Rattle.std.specs.Prelude.{◌<◌, ◌⊎◌, ◌↔◌, ℕ, not, None, List, Contains, IsTrue}
use Rattle.go_board.specs.declared.point.Point.{Point}
use Rattle.go_board.specs.Colours.{Colouring}
use Rattle.go_board.specs.Points.{IsOn, number_of}
use Rattle.go_board.specs.Reaching.{has_colour, joined}
use Rattle.go_board.specs.Rows.{IsIn}

-- q holds a stone that has one before k in its chain
abbrev pub HasBefore : ℕ → Colouring → ℕ → ℕ → Type 0
HasBefore n g k q = (p : ℕ) × (p < k) × IsTrue (joined n g q p) × IsTrue (not (has_colour g q None))

-- of the points of the board, the set has the stones that have one before k in their chain
abbrev pub AreSeen : ℕ → Colouring → ℕ → List ℕ → Type 0
AreSeen n g k seen = (q : Point) → IsOn n q → IsIn seen q.row q.col ↔ HasBefore n g k (number_of n q)

-- the set gains these points
abbrev pub GainsPoints : List Point → List ℕ → List ℕ → Type 0
GainsPoints points seen seen' = (q : Point) → IsIn seen' q.row q.col ↔ (Contains points q ⊎ IsIn seen q.row q.col)

-- of the points of the board, the set gains those of p's chain
abbrev pub GainsChain : ℕ → Colouring → ℕ → List ℕ → List ℕ → Type 0
GainsChain n g p seen seen' = (q : Point) → IsOn n q → IsIn seen' q.row q.col
    ↔ (IsTrue (joined n g p (number_of n q)) ⊎ IsIn seen q.row q.col)
