-- Laws of the words of this crate, each proved as the contract of a function of `laws` that does nothing. Proofs of
-- the crates above take them from there.
use Rattle.std.specs.Prelude.{◌≡◌, ◌<◌, ◌≤◌, ◌+◌, ◌*◌, ◌↔◌, ◌⊎◌, ℕ, false, List, Option, None, Some, IsTrue, length, slice_index_or, slice_set}
use Rattle.go_board.specs.declared.colour.Colour.{Colour}
use Rattle.go_board.specs.declared.pack.TheConstants.{PACK_BYTES}
use Rattle.go_board.specs.declared.point.Point.{Point}
use Rattle.go_board.specs.declared.size.TheConstants.{MAX_POINTS}
use Rattle.go_board.specs.Colours.{Colouring, colour_at}
use Rattle.go_board.specs.Packs.{byte_of, packed_of}
use Rattle.go_board.specs.Paths.{Joined, Reaches}
use Rattle.go_board.specs.Points.{IsOn, is_adjacent, number_of, point_at}
use Rattle.go_board.specs.Reaching.{is_dead, is_liberty_of, joined, moved, reaches, stones, vanished}

-- the test whether a point reaches a colour holds exactly where a path leads there
abbrev pub ReachesByPath : Type 0
ReachesByPath = (n : ℕ) (g : Colouring) (p : ℕ) (c : Option Colour)
    → p < n * n → IsTrue (reaches n g p c) ↔ Reaches n g p c

-- the test whether two points are joined holds exactly where a path joins them
abbrev pub JoinedByPath : Type 0
JoinedByPath = (n : ℕ) (g : Colouring) (p q : ℕ) → p < n * n → IsTrue (joined n g p q) ↔ Joined n g p q

-- a liberty of a stone's chain is an empty point adjacent to a stone that a path joins to it
abbrev pub LibertyByPath : Type 0
LibertyByPath = (n : ℕ) (g : Colouring) (p q : ℕ) → p < n * n
    → IsTrue (is_liberty_of n g p q)
    ↔ ((colour_at g q ≡ None) × ((r : ℕ) × Joined n g p r × IsTrue (is_adjacent n r q)))

-- no more stones of a colour vanish than the board has points
abbrev pub VanishedAtMostAll : Type 0
VanishedAtMostAll = (n : ℕ) (before after : Colouring) (c : Colour) → vanished n before after c ≤ n * n

-- on a board with an empty point, stones of one colour alone all reach empty
abbrev pub OneColourLives : Type 0
OneColourLives = (n : ℕ) (g : Colouring) (c : Colour) (e : ℕ) → e < n * n → colour_at g e ≡ None
    → ((k : ℕ) → k < n * n → (colour_at g k ≡ None) ⊎ (colour_at g k ≡ Some c))
    → (k : ℕ) → k < n * n → is_dead n g k ≡ false

-- a point of the board and its number determine each other
pub record PointsByNumber : Type 0 where
  pub number : (n : ℕ) (p : Point) → IsOn n p → number_of n p < n * n
  pub back : (n : ℕ) (p : Point) → IsOn n p → point_at n (number_of n p) ≡ p
  pub on : (n k : ℕ) → k < n * n → IsOn n (point_at n k)
  pub same : (n k : ℕ) → k < n * n → number_of n (point_at n k) ≡ k

-- of each colour, what a play takes and what it leaves are together what stood there with the placed stone, and that
-- is one stone more at most
pub record TakenAndLeft : Type 0 where
  pub together : (n : ℕ) (g : Colouring) (c : Colour) (p : ℕ) (of : Colour)
      → stones n (moved n g c p) of + vanished n (slice_set g p (Some c)) (moved n g c p) of
      ≡ stones n (slice_set g p (Some c)) of
  pub placed : (n : ℕ) (g : Colouring) (c : Colour) (p : ℕ) (of : Colour)
      → stones n (slice_set g p (Some c)) of ≤ stones n g of + 1

-- the packs of two colourings of one length are equal exactly where the colourings are
abbrev pub PacksTellApart : Type 0
PacksTellApart = (g h : Colouring) → length g ≡ length h → length g ≤ MAX_POINTS → (packed_of g ≡ packed_of h) ↔ (g ≡ h)

-- bytes of which each is that of its four points are the pack of a colouring
abbrev pub BytesMakeAPack : Type 0
BytesMakeAPack = (g : Colouring) (bytes : List ℕ) → length bytes ≡ PACK_BYTES
    → ((i : ℕ) → i < PACK_BYTES → slice_index_or bytes i 0 ≡ byte_of g i) → bytes ≡ packed_of g
