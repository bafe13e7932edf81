-- What paths decide, as functions that compute.
use Rattle.std.specs.Prelude.{◌==◌, ◌&&◌, ◌||◌, ℕ, zero, suc, ◌*◌, Bool, true, false, not, List, Option, Some, None, if◌then◌else◌, map, count_by, slice_set}
use Rattle.std.specs.List.{list_any, range_with_len}
use Rattle.go_board.specs.declared.colour.Colour.{Colour}
use Rattle.go_board.specs.declared.colour.Colour.TheVariants.{Black, White}
use Rattle.go_board.specs.Colours.{Colouring, colour_at, other}
use Rattle.go_board.specs.Points.{is_adjacent}

-- the numbers of the points of a board of n lines, in point order
abbrev pub points : ℕ → List ℕ
points n = range_with_len 0 (n * n)

abbrev pub is_same : Option Colour → Option Colour → Bool
is_same None None = true
is_same (Some Black) (Some Black) = true
is_same (Some White) (Some White) = true
is_same None (Some b) = false
is_same (Some a) None = false
is_same (Some Black) (Some White) = false
is_same (Some White) (Some Black) = false

abbrev pub has_colour : Colouring → ℕ → Option Colour → Bool
has_colour g p c = is_same (colour_at g p) c

-- some point adjacent to p passes the test
abbrev pub some_neighbour : ℕ → ℕ → (ℕ → Bool) → Bool
some_neighbour n p test = list_any (λ q. is_adjacent n p q && test q) (points n)

-- a path of points of p's colour, with at most this many steps, leads from p to a point that passes the test
unfoldable pub connects_within : ℕ → ℕ → Colouring → ℕ → (ℕ → Bool) → Bool
connects_within zero n g p test = test p
connects_within (suc k) n g p test =
    test p || some_neighbour n p (λ q. has_colour g q (colour_at g p) && connects_within k n g q test)

-- a path of any length does: none need have more steps than the board has points
abbrev pub connects : ℕ → Colouring → ℕ → (ℕ → Bool) → Bool
connects n g p test = connects_within (n * n) n g p test

-- a path of points of p's colour leads from p to a point adjacent to one coloured c
abbrev pub reaches : ℕ → Colouring → ℕ → Option Colour → Bool
reaches n g p c = connects n g p (λ q. some_neighbour n q (λ r. has_colour g r c))

-- a path of points of one colour joins p and q
abbrev pub joined : ℕ → Colouring → ℕ → ℕ → Bool
joined n g p q = connects n g p (λ r. r == q)

-- p is a stone of c that doesn't reach empty
abbrev pub is_taken : ℕ → Colouring → Colour → ℕ → Bool
is_taken n g c p = has_colour g p (Some c) && not (reaches n g p None)

-- the colour of a point once a colour is cleared
abbrev pub after_clearing : ℕ → Colouring → Colour → ℕ → Option Colour
after_clearing n g c p = if is_taken n g c p then None else colour_at g p

-- the points coloured c that don't reach empty are emptied
unfoldable pub cleared : ℕ → Colouring → Colour → Colouring
cleared n g c = map (after_clearing n g c) (points n)

-- the point is coloured, the other colour is cleared, and then its own
unfoldable pub moved : ℕ → Colouring → Colour → ℕ → Colouring
moved n g c p = cleared n (cleared n (slice_set g p (Some c)) (other c)) c

-- how many stones of c were there before and aren't there after
unfoldable pub vanished : ℕ → Colouring → Colouring → Colour → ℕ
vanished n before after c = count_by (λ p. has_colour before p (Some c) && not (has_colour after p (Some c))) (points n)

-- p is a point of c, or an empty point that reaches c and not the other colour
abbrev pub is_area : ℕ → Colouring → Colour → ℕ → Bool
is_area n g c p =
    has_colour g p (Some c)
    || ((has_colour g p None && reaches n g p (Some c)) && not (reaches n g p (Some (other c))))

-- how many points of the board are the area of a colour
unfoldable pub area : ℕ → Colouring → Colour → ℕ
area n g c = count_by (is_area n g c) (points n)

-- how many stones of a colour there are
abbrev pub stones : ℕ → Colouring → Colour → ℕ
stones n g c = count_by (λ p. has_colour g p (Some c)) (points n)

-- q is empty and adjacent to a member of p's chain
abbrev pub is_liberty_of : ℕ → Colouring → ℕ → ℕ → Bool
is_liberty_of n g p q = has_colour g q None && connects n g p (λ r. is_adjacent n r q)

-- p is a stone that doesn't reach empty
abbrev pub is_dead : ℕ → Colouring → ℕ → Bool
is_dead n g p = not (has_colour g p None) && not (reaches n g p None)
