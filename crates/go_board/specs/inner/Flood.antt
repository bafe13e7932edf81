-- Marked points, and how a flood marks more of them. For the contracts of the flood's own parts.
use Rattle.std.specs.Prelude.{◌≡◌, ◌<◌, ◌≤◌, ◌+◌, ◌*◌, ◌⊎◌, ◌↔◌, ℕ, Bool, true, false, not, List, Option, IsTrue, Contains, length, count_by, slice_index_or}
use Rattle.go_board.specs.declared.colour.Colour.{Colour}
use Rattle.go_board.specs.declared.size.TheConstants.{MAX_POINTS}
use Rattle.go_board.specs.Colours.{Colouring, colour_at}
use Rattle.go_board.specs.Paths.{IsAdjacent, Joined}
use Rattle.go_board.specs.Reaching.{reaches}

-- the point with this number is marked
abbrev pub IsMarked : List Bool → ℕ → Type 0
IsMarked marks j = slice_index_or marks j false ≡ true

-- a path of points of one colour leads from a marked point to j
abbrev pub IsJoinedTo : ℕ → Colouring → List Bool → ℕ → Type 0
IsJoinedTo n g marks j = (p : ℕ) × IsMarked marks p × Joined n g p j

-- the marked points are those coloured `from` that reach `to`
abbrev pub AreReaching : ℕ → Colouring → Option Colour → Option Colour → List Bool → Type 0
AreReaching n g from to marks = (j : ℕ) → IsMarked marks j
    ↔ ((j < n * n) × (colour_at g j ≡ from) × IsTrue (reaches n g j to))

-- the marked points are those that a path of points of p's colour joins to p
abbrev pub AreJoined : ℕ → Colouring → ℕ → List Bool → Type 0
AreJoined n g p marks = (j : ℕ) → IsMarked marks j ↔ Joined n g p j

-- some neighbour of p has this colour
abbrev pub IsBeside : ℕ → Colouring → ℕ → Option Colour → Type 0
IsBeside n g p colour = (q : ℕ) × IsAdjacent n p q × (colour_at g q ≡ colour)

-- p has the one colour and a neighbour of the other
abbrev pub IsSeed : ℕ → Colouring → Option Colour → Option Colour → ℕ → Type 0
IsSeed n g from to p = (colour_at g p ≡ from) × IsBeside n g p to

-- the work that is left: two steps for each point that isn't marked, one for each that waits
abbrev pub work : List Bool → List ℕ → ℕ
work marks waiting = 2 * count_by not marks + length waiting

-- there is room for each point that isn't marked yet
pub record HasRoom (marks : List Bool) (waiting : List ℕ) : Type 0 where
  pub all : length marks ≡ MAX_POINTS
  pub room : length waiting + count_by not marks ≤ MAX_POINTS

-- from p to q in one step of a path
abbrev pub IsStep : ℕ → Colouring → ℕ → ℕ → Type 0
IsStep n g p q = IsAdjacent n p q × (colour_at g q ≡ colour_at g p)

-- from the one set to the other, points with New were marked, and those wait
pub record Grows (New : ℕ → Type 0) (marks : List Bool) (waiting : List ℕ) (marks' : List Bool) (waiting' : List ℕ) :
    Type 0 where
  pub kept : (j : ℕ) → IsMarked marks j → IsMarked marks' j
  pub only : (j : ℕ) → IsMarked marks' j → IsMarked marks j ⊎ (New j × Contains waiting' j)
  pub waits : (j : ℕ) → Contains waiting j → Contains waiting' j
  pub waiting_only : (j : ℕ) → Contains waiting' j → Contains waiting j ⊎ IsMarked marks' j
  pub less : work marks' waiting' ≤ work marks waiting
  pub room : HasRoom marks' waiting'

-- the seeds among the first i points are marked, and they wait
pub record IsSeeding (n : ℕ) (g : Colouring) (from to : Option Colour) (i : ℕ) (marks : List Bool) (waiting : List ℕ) :
    Type 0 where
  pub sound : (j : ℕ) → IsMarked marks j → (j < i) × IsSeed n g from to j
  pub complete : (j : ℕ) → j < i → IsSeed n g from to j → IsMarked marks j
  pub wait : (j : ℕ) → IsMarked marks j → Contains waiting j
  pub marked : (j : ℕ) → Contains waiting j → IsMarked marks j
  pub room : HasRoom marks waiting
