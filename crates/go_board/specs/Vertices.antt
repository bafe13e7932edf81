use Rattle.std.specs.Prelude.{ℕ, Option, Some, None, Result, Ok, Err, List, [], ◌∷◌, ◌+◌, ◌-◌, ◌*◌, ◌&&◌, ◌==◌, nat_le, nat_lt, codes, position, decimal, slice_index_or, if◌then◌else◌}
use Rattle.std.specs.Char.{is_ascii_digit, digit_value, to_ascii_uppercase}
use Rattle.std.specs.Str.{str_eq_ignore_ascii_case}
use Rattle.go_board.specs.declared.vertex.Vertex.{Vertex}
use Rattle.go_board.specs.declared.vertex.Vertex.TheVariants.{Pass, At}
use Rattle.go_board.specs.declared.vertex.VertexError.{VertexError}
use Rattle.go_board.specs.declared.vertex.VertexError.TheVariants.{Malformed, OffBoard}
use Rattle.go_board.specs.declared.vertex.TheConstants.{MAX_ROW_NUMBER}
use Rattle.go_board.specs.Points.{IsOn}

-- the letters of the columns from the left: the alphabet without I
abbrev pub column_letters : List ℕ
column_letters = codes "ABCDEFGHJKLMNOPQRSTUVWXYZ"

-- the column of a letter in either case
abbrev pub column_of : ℕ → Option ℕ
column_of letter = position (λ b. b == to_ascii_uppercase letter) column_letters

-- the row with this number from 1, where a vertex can name it
abbrev pub row_numbered : ℕ → Option ℕ
row_numbered n = if nat_le 1 n && nat_le n MAX_ROW_NUMBER then Some (n - 1) else None

-- the row that one or two digits name
abbrev pub row_of : List ℕ → Option ℕ
row_of (a ∷ []) = if is_ascii_digit a then row_numbered (digit_value a) else None
row_of (a ∷ b ∷ []) =
    if is_ascii_digit a && is_ascii_digit b then row_numbered (10 * digit_value a + digit_value b) else None
row_of _ = None

-- the point in this column and row, where both are named
abbrev pub point_of_parts : Option ℕ → Option ℕ → Option Vertex
point_of_parts (Some col) (Some row) = Some (At (record { col = col; row = row }))
point_of_parts _ _ = None

-- a letter and a row
abbrev pub point_of : List ℕ → Option Vertex
point_of [] = None
point_of (letter ∷ digits) = point_of_parts (column_of letter) (row_of digits)

-- the vertex that a word spells: a pass in any case, or a letter and a row
abbrev pub vertex_of : List ℕ → Option Vertex
vertex_of word = if str_eq_ignore_ascii_case word (codes "pass") then Some Pass else point_of word

-- the vertex is a pass, or a point on a board of n lines
abbrev pub IsOnBoard : ℕ → Vertex → Type 0
IsOnBoard n Pass = Unit {0}
IsOnBoard n (At p) = IsOn n p

-- the vertex spelled is a point past the edge of a board of n lines
abbrev pub SpellsOffBoard : ℕ → Option Vertex → Type 0
SpellsOffBoard n None = ⊥
SpellsOffBoard n (Some Pass) = ⊥
SpellsOffBoard n (Some (At p)) = IsOn n p → ⊥

-- what reading the spelled vertex gives on a board of n lines
abbrev pub vertex_on : ℕ → Option Vertex → Result Vertex VertexError
vertex_on n None = Err Malformed
vertex_on n (Some Pass) = Ok Pass
vertex_on n (Some (At p)) = if nat_lt p.col n && nat_lt p.row n then Ok (At p) else Err OffBoard

-- the letter of a column, or a question mark past the last letter
abbrev pub letter_of_column : ℕ → ℕ
letter_of_column col = slice_index_or column_letters col 63

-- the letter of the column and the number of the row from 1, or `pass`
abbrev pub vertex_word : Vertex → List ℕ
vertex_word Pass = codes "pass"
vertex_word (At p) = letter_of_column p.col ∷ decimal (p.row + 1)
