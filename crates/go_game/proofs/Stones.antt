-- A board on which black stones alone were placed.
use Rattle.std.proofs.Common.{arith, Bool, true, if◌then◌else◌, ◌||◌, sym, ◌≡◌, ◌<◌, ◌≤◌, ◌+◌, ◌*◌, ◌∙◌, ◌⊎◌, ◌&&◌, not, false, inl, inr, ℕ, zero, suc, List, [], ◌∷◌, ◌++◌, Option, Some, None, length, refl, ap, replicate}
use Rattle.std.specs.Prelude.{slice_set}
use Rattle.std.proofs.lemmas.Bool.Decides.{eqb_tells}
use Rattle.std.proofs.lemmas.Grind.{get_or-set_at}
use Rattle.std.proofs.lemmas.List.{get_or_past, get_or-set_other, length-set}
use Rattle.std.proofs.lemmas.List.FromFn.{fill_by_all}
use Rattle.go_board.specs.declared.colour.Colour.{Colour}
use Rattle.go_board.specs.declared.colour.Colour.TheVariants.{Black}
use Rattle.go_board.specs.declared.point.Point.{Point}
use Rattle.go_board.specs.Colours.{Colouring, colour_at}
use Rattle.go_board.specs.Points.{number_of}
use Rattle.go_board.specs.Reaching.{is_dead, is_same, reaches}
use Rattle.go_game.specs.Handicaps.{is_listed, stones_on_board}

-- the colouring with a black stone on each of these points
abbrev pub with_black : ℕ → Colouring → List Point → Colouring
with_black n g [] = g
with_black n g (p ∷ points) = with_black n (slice_set g (number_of n p) (Some Black)) points

-- from an empty board
abbrev pub laid : ℕ → List Point → Colouring
laid n points = with_black n (replicate (n * n) None) points

-- the stones are placed one after the other
pub with_black-more : (n : ℕ) (g : Colouring) (points : List Point) (p : Point) →
    with_black n g (points ++ p ∷ []) ≡ slice_set (with_black n g points) (number_of n p) (Some Black)
with_black-more n g [] p = refl
with_black-more n g (q ∷ points) p = with_black-more n (slice_set g (number_of n q) (Some Black)) points p

with_black-length : (n : ℕ) (g : Colouring) (points : List Point) → length (with_black n g points) ≡ length g
with_black-length n g [] = refl
with_black-length n g (p ∷ points) = with_black-length n (slice_set g (number_of n p) (Some Black)) points
    ∙ length-set g (number_of n p) (Some Black)

-- a point is empty or black
abbrev IsPlain : Option Colour → Type 0
IsPlain c = (c ≡ None) ⊎ (c ≡ Some Black)

abbrev ArePlain : Colouring → Type 0
ArePlain g = (k : ℕ) → IsPlain (colour_at g k)

set_plain : (g : Colouring) (i : ℕ) → ArePlain g → ArePlain (slice_set g i (Some Black))
set_plain [] i plain k = plain k
set_plain (c ∷ g) zero plain zero = inr refl
set_plain (c ∷ g) zero plain (suc k) = plain (suc k)
set_plain (c ∷ g) (suc i) plain zero = plain zero
set_plain (c ∷ g) (suc i) plain (suc k) = set_plain g i (λ j. plain (suc j)) k

with_black-plain : (n : ℕ) (g : Colouring) (points : List Point) → ArePlain g → ArePlain (with_black n g points)
with_black-plain n g [] plain = plain
with_black-plain n g (p ∷ points) plain =
    with_black-plain n (slice_set g (number_of n p) (Some Black)) points (set_plain g (number_of n p) plain)

empty_plain : (m : ℕ) → ArePlain (replicate m None)
empty_plain zero k = inl refl
empty_plain (suc m) zero = inl refl
empty_plain (suc m) (suc k) = empty_plain m k

-- how many points hold a stone
abbrev stone_count : Colouring → ℕ
stone_count [] = 0
stone_count (None ∷ g) = stone_count g
stone_count (Some c ∷ g) = suc (stone_count g)

set_count : (g : Colouring) (i : ℕ) (c : Colour) → stone_count (slice_set g i (Some c)) ≤ suc (stone_count g)
set_count [] i c = omega arith
set_count (None ∷ g) zero c = omega arith
set_count (Some d ∷ g) zero c = omega arith
set_count (None ∷ g) (suc i) c = set_count g i c
set_count (Some d ∷ g) (suc i) c = let less = set_count g i c in omega arith

with_black-count : (n : ℕ) (g : Colouring) (points : List Point) →
    stone_count (with_black n g points) ≤ stone_count g + length points
with_black-count n g [] = omega arith
with_black-count n g (p ∷ points) =
    let first = set_count g (number_of n p) Black in
    let rest = with_black-count n (slice_set g (number_of n p) (Some Black)) points in
    omega arith

empty_count : (m : ℕ) → stone_count (replicate m None) ≡ 0
empty_count zero = refl
empty_count (suc m) = empty_count m

-- where there are fewer stones than points, some point is empty
some_empty : (g : Colouring) → stone_count g < length g → (k : ℕ) × (k < length g) × (colour_at g k ≡ None)
some_empty [] few = absurd (omega arith)
some_empty (None ∷ g) few = (0, omega arith, refl)
some_empty (Some c ∷ g) few = let rest = some_empty g (omega arith) in
    (suc rest.0, let low = rest.1 in omega arith, rest.2)

empty_length : (m : ℕ) → length (replicate {A = Option Colour} m None) ≡ m
empty_length zero = refl
empty_length (suc m) = ap suc (empty_length m)

pub stones_plain : (n : ℕ) (points : List Point) (k : ℕ) → IsPlain (colour_at (laid n points) k)
stones_plain n points = with_black-plain n (replicate (n * n) None) points (empty_plain (n * n))

pub stones_leave : (n : ℕ) (points : List Point) → length points < n * n → (k : ℕ) × (k < n * n)
    × (colour_at (laid n points) k ≡ None)
stones_leave n points few =
    let long : length (laid n points) ≡ n * n = with_black-length n (replicate (n * n) None) points
    ∙ empty_length (n * n) in
    let count = with_black-count n (replicate (n * n) None) points in
    let none = empty_count (n * n) in
    let found = some_empty (laid n points) (omega (arith, long, count, none, few)) in
    (found.0, let low = found.1 in omega (arith, low, long), found.2)

-- no point past the board is dead
pub past_alive : (n : ℕ) (points : List Point) (k : ℕ) → n * n ≤ k → is_dead n (laid n points) k ≡ false
past_alive n points k past =
    let long : length (laid n points) ≡ n * n = with_black-length n (replicate (n * n) None) points
    ∙ empty_length (n * n) in
    let none : colour_at (laid n points) k ≡ None = get_or_past (laid n points) k None (omega (arith, long, past)) in
    ap (λ (c : Option Colour). not (is_same c None) && not (reaches n (laid n points) k None)) none

-- each point is black where it is listed, and else as before
black_at : (n : ℕ) (g : Colouring) (listed : List Point) (k : ℕ) → k < length g →
    colour_at (with_black n g listed) k ≡ (if is_listed n listed k then Some Black else colour_at g k)
black_at n g [] k low = refl
black_at n g (p ∷ listed) k low =
    let rest = is_listed n listed k in
    let placed = slice_set g (number_of n p) (Some Black) in
    let long = length-set g (number_of n p) (Some Black) in
    black_at n placed listed k (omega (arith, long, low)) ∙ elim (eqb_tells (number_of n p) k) [
      | inl here ↦
          ap (λ c. if rest then Some Black else c)
          (get_or-set_at g (number_of n p) k (Some Black) None (sym here.1) (omega (arith, here.1, low)))
          ∙ always rest
          ∙ ap (λ b. if b || rest then Some Black else colour_at g k) (sym here.0)
      | inr there ↦
          ap (λ c. if rest then Some Black else c)
          (get_or-set_other g (number_of n p) k (Some Black) None (λ e. there.1 (sym e)))
          ∙ ap (λ b. if b || rest then Some Black else colour_at g k) (sym there.0)
    ]
  where
    always : (b : Bool) → (if b then Some Black else Some Black) ≡ Some Black
    always true = refl
    always false = refl

none_at : (m k : ℕ) → colour_at (replicate m None) k ≡ None
none_at zero k = refl
none_at (suc m) zero = refl
none_at (suc m) (suc k) = none_at m k

-- the stones that were laid are those that are listed
pub laid_is : (n : ℕ) (listed : List Point) → laid n listed ≡ stones_on_board n listed
unfolding stones_on_board
laid_is n listed =
    let empty = empty_length (n * n) in
    fill_by_all (λ k. if is_listed n listed k then Some Black else None) (laid n listed) (n * n) None
    (with_black-length n (replicate (n * n) None) listed ∙ empty)
    (λ k low. black_at n (replicate (n * n) None) listed k (omega (arith, low, empty))
    ∙ ap (λ c. if is_listed n listed k then Some Black else c) (none_at (n * n) k))
