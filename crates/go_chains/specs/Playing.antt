-- How many stones a play has to do with, how many changes it may make, and how much is read around it.
use Rattle.std.specs.Prelude.{ℕ, Bool, List, Result, [], ◌≡◌, ◌≤◌, ◌&&◌, ◌+◌, ◌*◌, ◌++◌, ◌∷◌, OnErr, OnOk, Some, count_by, length, slice_set}
use Rattle.go_board.specs.declared.colour.Colour.{Colour}
use Rattle.go_board.specs.declared.point.Point.{Point}
use Rattle.go_board.specs.Colours.{Colouring, other}
use Rattle.go_board.specs.Points.{number_of}
use Rattle.go_board.specs.Reaching.{has_colour, joined, moved, points, some_neighbour, vanished}
use Rattle.go_board.specs.declared.point_set.TheConstants.{WORDS}
use Rattle.go_chains.specs.Boards.{BoardValue, grid_of}
use Rattle.go_chains.specs.Rewound.{PlayLogged}
use Rattle.go_chains.specs.declared.change.Change.{Change}
use Rattle.go_chains.specs.declared.error.PlaceError.{PlaceError}

-- q is a stone of c in a chain with a stone beside p
abbrev pub is_beside_own : ℕ → Colouring → Colour → ℕ → ℕ → Bool
is_beside_own n g c p q = has_colour g q (Some c) && some_neighbour n p (λ s. has_colour g s (Some c) && joined n g s q)

-- the stones of c in the chains beside p
unfoldable pub stones_beside : ℕ → Colouring → Colour → ℕ → ℕ
stones_beside n g c p = count_by (is_beside_own n g c p) (points n)

-- the opponent's stones that a stone of c at p takes
abbrev pub stones_captured : ℕ → Colouring → Colour → ℕ → ℕ
stones_captured n g c p = vanished n (slice_set g p (Some c)) (moved n g c p) (other c)

-- the most changes that a play of c at p makes
abbrev pub most_of : ℕ → Colouring → Colour → ℕ → ℕ
most_of n g c p = 128 + 8 * (stones_beside n g c p + stones_captured n g c p)

-- the same of a board and a point
abbrev pub most_at : BoardValue → Colour → Point → ℕ
most_at b c p = most_of b.lines (grid_of b) c (number_of b.lines p)

-- the most reads of a look around a point: of each of four neighbours three cells, and all words of liberties
abbrev pub reads_around : ℕ
reads_around = 4 * (WORDS + 3)

-- the colouring of a board after a play of c at p
abbrev pub played : BoardValue → Colour → Point → Colouring
played b c p = moved b.lines (grid_of b) c (number_of b.lines p)

-- how many stones of a colour went, from one colouring with a stone of c at p to another
abbrev pub lost : ℕ → Colouring → Colouring → Colour → ℕ → Colour → ℕ
lost n old new c p colour = vanished n (slice_set old p (Some c)) new colour

-- the same of a board where c was played at p
abbrev pub went : BoardValue → BoardValue → Colour → Point → Colour → ℕ
went old new c p colour = lost old.lines (grid_of old) (grid_of new) c (number_of old.lines p) colour

-- what a play does to board, log and meter: a refused one leaves board and log as they were, and a play that is made
-- is logged, with at most `most` changes; each of its changes is counted, and so is each cell read, with reads to spare
-- for a look around
pub record PlayCosts {A : Type 0} (result : Result A PlaceError) (old new : BoardValue)
    (plays plays' : List (List Change)) (before after most : ℕ) : Type 0 where
  pub same : OnErr result (new ≡ old)
  pub log : OnErr result (plays' ≡ plays)
  pub logged : OnOk result (PlayLogged old new plays plays' most)
  pub count : after + reads_around ≤ before + 3 * most
  pub ticked : (changes : List Change) → plays' ≡ plays ++ changes ∷ [] → before + length changes ≤ after
  pub onward : before ≤ after
