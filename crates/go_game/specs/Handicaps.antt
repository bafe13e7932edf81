-- Where handicap stones go.
use Rattle.std.specs.Prelude.{◌-◌, ◌/◌, ◌%◌, ◌++◌, ◌==◌, ◌&&◌, ◌||◌, ℕ, Bool, List, [], ◌∷◌, Option, Some, None, if◌then◌else◌, map, nat_le, nat_lt, take}
use Rattle.std.specs.List.{list_any}
use Rattle.go_board.specs.declared.colour.Colour.TheVariants.{Black}
use Rattle.go_board.specs.declared.point.Point.{Point}
use Rattle.go_board.specs.Colours.{Colouring}
use Rattle.go_board.specs.Points.{number_of}
use Rattle.go_board.specs.Reaching.{points}

-- the most handicap stones on a board of n lines
abbrev pub greatest : ℕ → ℕ
greatest n = if nat_lt n 7 then 0 else (if n == 7 || n % 2 == 0 then 4 else 9)

abbrev pub crossing : ℕ → ℕ → Point
crossing col row = record { col = col; row = row }

-- the third line below 13 lines, else the fourth, counted from 0; the line opposite; the middle
abbrev pub near : ℕ → ℕ
near n = if nat_lt n 13 then 2 else 3

abbrev pub far : ℕ → ℕ
far n = n - 1 - near n

abbrev pub middle : ℕ → ℕ
middle n = n / 2

-- lower left, upper right, upper left, lower right
abbrev pub corners : ℕ → List Point
corners n =
    crossing (near n) (near n) ∷ crossing (far n) (far n)
    ∷ crossing (near n) (far n) ∷ crossing (far n) (near n) ∷ []

-- left and right
abbrev pub sides : ℕ → List Point
sides n = crossing (near n) (middle n) ∷ crossing (far n) (middle n) ∷ []

-- bottom and top
abbrev pub ends : ℕ → List Point
ends n = crossing (middle n) (near n) ∷ crossing (middle n) (far n) ∷ []

abbrev pub centre : ℕ → List Point
centre n = crossing (middle n) (middle n) ∷ []

abbrev pub where_wanted : Bool → List Point → List Point
where_wanted wanted points = if wanted then points else []

-- the points of a number of stones, in order: corners, then sides, then ends, and the centre for an odd
-- number above four
unfoldable pub handicap_points : ℕ → ℕ → List Point
handicap_points n number =
    ((take number (corners n) ++ where_wanted (nat_le 6 number) (sides n)) ++ where_wanted (nat_le 8 number) (ends n))
    ++ where_wanted (nat_lt 4 number && number % 2 == 1) (centre n)

-- the points, where the number is from 2 to the greatest
abbrev pub fixed : ℕ → ℕ → Option (List Point)
fixed n number = if nat_le 2 number && nat_le number (greatest n) then Some (handicap_points n number) else None

-- a point with this number is among the listed ones
abbrev pub is_listed : ℕ → List Point → ℕ → Bool
is_listed n listed k = list_any (λ p. number_of n p == k) listed

-- a board of n lines with a black stone on each listed point, and no other stone
unfoldable pub stones_on_board : ℕ → List Point → Colouring
stones_on_board n listed = map (λ k. if is_listed n listed k then Some Black else None) (points n)
