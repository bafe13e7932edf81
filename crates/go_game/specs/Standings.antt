-- The standing of a game: its start and its moves.
use Rattle.std.specs.Prelude.{◌≡◌, ◌≢◌, ◌<◌, ◌≤◌, ◌-◌, ◌*◌, ◌++◌, ◌&&◌, ◌==◌, ℕ, ℤ, Bool, not, is_some, pos, List, [], ◌∷◌, Option, Some, None, IsTrue, Contains, length, map, replicate, slice_index_or, take}
use Rattle.std.specs.List.{list_any}
use Rattle.go_board.specs.declared.colour.Colour.{Colour}
use Rattle.go_board.specs.declared.colour.Colour.TheVariants.{Black}
use Rattle.go_board.specs.declared.size.TheConstants.{MAX_LINES}
use Rattle.go_board.specs.declared.vertex.Move.{Move}
use Rattle.go_board.specs.declared.vertex.Vertex.{Vertex}
use Rattle.go_board.specs.declared.vertex.Vertex.TheVariants.{Pass, At}
use Rattle.go_board.specs.Colours.{Colouring, colour_at, other}
use Rattle.go_board.specs.Grids.{GridValue}
use Rattle.go_board.specs.Komi.{IsKomi}
use Rattle.go_board.specs.Points.{IsOn, number_of}
use Rattle.go_board.specs.Reaching.{moved, reaches}
use Rattle.go_chains.specs.declared.change.Change.{Change}
use Rattle.go_game.specs.declared.superko.Superko.{Superko}
use Rattle.go_game.specs.declared.superko.Superko.TheVariants.{Positional, Situational}

-- the size, the komi in hundredths, the superko rule, the colouring and the mover at the start, and the moves
pub record Standing : Type 0 where
  pub lines : ℕ
  pub komi : ℤ
  pub rule : Superko
  pub start : Colouring
  pub first : Colour
  pub moves : List Move

-- what contracts see of a game: its standing, the cells of its board, the changes of each of its moves,
-- all writes to the cells so far, and how many cells were read or written
pub record GameValue : Type 0 where
  pub standing : Standing
  pub cells : List ℕ
  pub changes : List (List Change)
  pub trace : List Change
  pub count : ℕ

-- the colouring that a turn leaves: a pass leaves it as it is
abbrev pub after_vertex : ℕ → Colouring → Colour → Vertex → Colouring
after_vertex n g c Pass = g
after_vertex n g c (At p) = moved n g c (number_of n p)

abbrev pub after_move : ℕ → Colouring → Move → Colouring
after_move n g m = after_vertex n g m.colour m.vertex

-- the colouring after each number of moves, the start first
abbrev pub positions : ℕ → Colouring → List Move → List Colouring
positions n g [] = g ∷ []
positions n g (m ∷ moves) = g ∷ positions n (after_move n g m) moves

abbrev pub positions_of : Standing → List Colouring
positions_of s = positions s.lines s.start s.moves

-- the last of them
abbrev pub board : ℕ → Colouring → List Move → Colouring
board n g [] = g
board n g (m ∷ moves) = board n (after_move n g m) moves

abbrev pub board_of : Standing → Colouring
board_of s = board s.lines s.start s.moves

-- the grid after the last move, as it is asked about points
abbrev pub present : Standing → GridValue
present s = record { lines = s.lines; colours = board_of s }

-- the standing with one more move
abbrev pub with_move : Standing → Move → Standing
with_move s m = record s { moves = s.moves ++ m ∷ [] }

-- the standing with these moves played after its own
abbrev pub with_moves : Standing → List Move → Standing
with_moves s [] = s
with_moves s (m ∷ moves) = with_moves (with_move s m) moves

-- the standing with the last k moves taken back
abbrev pub without_last : ℕ → Standing → Standing
without_last k s = record s { moves = take (length s.moves - k) s.moves }

-- the standing after its first k moves
abbrev pub first_moves : Standing → ℕ → Standing
first_moves s k = record s { moves = take k s.moves }

-- an empty board of n lines without a move, Black to move
abbrev pub empty_start : ℕ → ℤ → Superko → Standing
empty_start n komi rule =
    record { lines = n; komi = komi; rule = rule; start = replicate (n * n) None; first = Black; moves = [] }

-- there is neither a stone nor a move
abbrev pub is_vacant_standing : Standing → Bool
is_vacant_standing s = not (list_any is_some s.start) && length s.moves == 0

-- no move was played on the colours of this grid, and the rule is the positional one
abbrev pub started : GridValue → Colour → Standing
started grid first =
    record { lines = grid.lines; komi = pos 0; rule = Positional; start = grid.colours; first = first; moves = [] }

-- the colour that is to move: the other than the last mover's
abbrev pub mover_after : Colour → List Move → Colour
mover_after first [] = first
mover_after first (m ∷ moves) = mover_after (other m.colour) moves

abbrev pub mover_of : Standing → Colour
mover_of s = mover_after s.first s.moves

-- a colouring, and the colour that is to move
abbrev pub Situation : Type 0
Situation = Colouring × Colour

-- the situation after each number of moves, the start's first
abbrev pub situations : ℕ → Colouring → Colour → List Move → List Situation
situations n g c [] = (g, c) ∷ []
situations n g c (m ∷ moves) = (g, c) ∷ situations n (after_move n g m) (other m.colour) moves

abbrev pub situations_of : Standing → List Situation
situations_of s = situations s.lines s.start s.first s.moves

-- what a rule sees of a situation: the colouring, and by the situational rule the mover too
abbrev pub Seen : Type 0
Seen = Colouring × Option Colour

abbrev pub mover_by : Superko → Colour → Option Colour
mover_by Positional c = None
mover_by Situational c = Some c

abbrev pub seen_by : Superko → Situation → Seen
seen_by rule x = (x.0, mover_by rule x.1)

-- what the rule saw after each number of moves
abbrev pub stood : Superko → ℕ → Colouring → Colour → List Move → List Seen
stood rule n g c moves = map (seen_by rule) (situations n g c moves)

abbrev pub stood_of : Standing → List Seen
stood_of s = stood s.rule s.lines s.start s.first s.moves

-- what it would see after a play of this colour: the other one is to move then
abbrev pub seen_after : Standing → Colour → ℕ → Seen
seen_after s c p = seen_by s.rule (moved s.lines (board_of s) c p, other c)

-- the point is past the board's edge
abbrev pub IsOffBoard : Standing → Vertex → Type 0
IsOffBoard s Pass = ⊥
IsOffBoard s (At p) = IsOn s.lines p → ⊥

-- the point is on the board and not empty
abbrev pub IsOccupied : Standing → Vertex → Type 0
IsOccupied s Pass = ⊥
IsOccupied s (At p) = IsOn s.lines p × (colour_at (board_of s) (number_of s.lines p) ≢ None)

-- this was seen after k moves, and not after fewer
abbrev pub IsFirstAt : List Seen → Seen → ℕ → Type 0
IsFirstAt xs x k =
    (k < length xs) × (slice_index_or xs k ([], None) ≡ x) × ((j : ℕ) → j < k → slice_index_or xs j ([], None) ≢ x)

-- the play would repeat what the rule saw first after k moves
abbrev pub IsRepeat : Standing → Colour → Vertex → ℕ → Type 0
IsRepeat s c Pass k = ⊥
IsRepeat s c (At p) k = IsFirstAt (stood_of s) (seen_after s c (number_of s.lines p)) k

-- a pass, or a play on an empty point of the board that leaves what the rule didn't see yet
abbrev pub IsLegal : Standing → Colour → Vertex → Type 0
IsLegal s c Pass = Unit {0}
IsLegal s c (At p) = IsOn s.lines p × (colour_at (board_of s) (number_of s.lines p) ≡ None)
    × (Contains (stood_of s) (seen_after s c (number_of s.lines p)) → ⊥)

-- a standing that play can come to
pub record IsSound (s : Standing) : Type 0 where
  pub size : (0 < s.lines) × (s.lines ≤ MAX_LINES)
  pub whole : length s.start ≡ s.lines * s.lines
  pub komi : IsKomi s.komi
  pub alive : (p : ℕ) → p < s.lines * s.lines → colour_at s.start p ≢ None → IsTrue (reaches s.lines s.start p None)
  pub legal : (k : ℕ) (m : Move) → k < length s.moves → slice_index_or s.moves k m ≡ m
      → IsLegal (first_moves s k) m.colour m.vertex
