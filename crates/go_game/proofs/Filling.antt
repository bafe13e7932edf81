-- How many writes it takes to put the stones of a grid on a board, one after the other.
use Rattle.std.proofs.Common.{arith, ◌≡◌, ◌<◌, ◌≤◌, ◌+◌, ◌-◌, ◌*◌, ◌∙◌, ◌&&◌, Bool, true, false, not, cond, if◌then◌else◌, inl, inr, ℕ, suc, List, [], ◌∷◌, ◌++◌, Some, None, length, length-append, refl, sym, ap}
use Rattle.std.specs.Prelude.{count_by, slice_set, sum_by}
use Rattle.std.specs.List.{range_with_len}
use Rattle.std.proofs.lemmas.Bool.{and_parts, cases_lt, false≢true}
use Rattle.std.proofs.lemmas.List.Sums.{sum_by-cons}
use Rattle.go_board.specs.declared.colour.Colour.{Colour}
use Rattle.go_board.specs.declared.colour.Colour.TheVariants.{Black, White}
use Rattle.go_board.specs.Colours.{Colouring, colour_at, other}
use Rattle.go_board.specs.Grids.{GridValue}
use Rattle.go_board.specs.Laws.{ReachesByPath}
use Rattle.go_board.specs.Living.{AreAlive}
use Rattle.go_board.specs.Reaching.{has_colour, is_same, moved, points, vanished}
use Rattle.go_chains.specs.declared.change.Change.{Change}
use Rattle.go_chains.specs.Playing.{is_beside_own, most_of, stones_beside, stones_captured}
use Rattle.go_game.specs.Counts.{most_to_fill, stones_in}
use Rattle.go_game.specs.inner.Building.{IsFilledTo, IsPart, most_to_put}
use Rattle.go_game.proofs.Building.{filled_stone, moved_part, same-true}

abbrev once : Bool → ℕ
once b = cond b 1 0

-- of two tests of which the second passes what the first does, the second counts no fewer
count_le : (p q : ℕ → Bool) → ((k : ℕ) → p k ≡ true → q k ≡ true) → (xs : List ℕ) → count_by p xs ≤ count_by q xs
count_le p q more [] = omega arith
count_le p q more (x ∷ xs) =
    omega (
      arith,
      sum_by-cons (λ k. once (p k)) x xs,
      sum_by-cons (λ k. once (q k)) x xs,
      count_le p q more xs,
      one (p x) (q x) (more x),
    )
  where
    one : (a b : Bool) → (a ≡ true → b ≡ true) → once a ≤ once b
    one false b passes = omega arith
    one true b passes = omega (arith, ap once (passes refl))

-- nothing vanishes where nothing changes
vanished-self : (n : ℕ) (g : Colouring) (c : Colour) → vanished n g g c ≡ 0
unfolding vanished
vanished-self n g c = none (λ p. has_colour g p (Some c)) (points n)
  where
    never : (b : Bool) → once (b && not b) ≡ 0
    never true = refl
    never false = refl

    none : (t : ℕ → Bool) (xs : List ℕ) → count_by (λ p. t p && not (t p)) xs ≡ 0
    none t [] = refl
    none t (x ∷ xs) = omega (arith, sum_by-cons (λ p. once (t p && not (t p))) x xs, none t xs, never (t x))

-- the stones of a part are stones of the whole
stone_of_part : (now g : Colouring) → IsPart now g → (c : Colour) (k : ℕ) → has_colour now k (Some c) ≡ true →
    not (has_colour g k None) ≡ true
stone_of_part now g part c k stone =
    let there : is_same (colour_at now k) None ≡ false = same-true (colour_at now k) c stone in
    elim (part k) [
      | inl same ↦ ap not (ap (λ v. is_same v None) (sym same) ∙ there)
      | inr none ↦ absurd (false≢true (sym there ∙ ap (λ v. is_same v None) none))
    ]

beside_few : (n : ℕ) (now g : Colouring) → IsPart now g → (c : Colour) (i : ℕ) →
    stones_beside n now c i ≤ count_by (λ p. not (has_colour g p None)) (points n)
unfolding stones_beside
beside_few n now g part c i =
    count_le (is_beside_own n now c i) (λ p. not (has_colour g p None))
    (λ k e. stone_of_part now g part c k (and_parts (has_colour now k (Some c)) _ e).0) (points n)

filled_part : (n : ℕ) (g now : Colouring) (i : ℕ) → i < n * n → IsFilledTo n g i now → IsPart now g
filled_part n g now i low filled k = elim (cases_lt k i) [
  | inl before ↦ inl (filled.there k before (omega (arith, before, low)))
  | inr after ↦ inr (filled.empty k after)
]

some_none : (c : Colour) → is_same (Some c) None ≡ false
some_none Black = refl
some_none White = refl

-- the play of one stone more takes none, so it makes few changes
pub most_put : ReachesByPath → (n : ℕ) (g now : Colouring) (i : ℕ) (c : Colour) → i < n * n → length g ≡ n * n →
    AreAlive n g → colour_at g i ≡ Some c → IsFilledTo n g i now
    → most_of n now c i ≤ most_to_put (record { lines = n; colours = g }) i
most_put law n g now i c low whole alive is filled =
    let placed = slice_set now i (Some c) in
    let moves : moved n now c i ≡ placed =
    moved_part law n now g c i filled.whole alive (filled_stone n g now i c low whole is filled).1 in
    let none : stones_captured n now c i ≡ 0 = ap (λ (k : Colouring). vanished n placed k (other c)) moves
    ∙ vanished-self n placed (other c) in
    let all : ℕ = stones_in (record { lines = n; colours = g }) in
    let stone : most_to_put (record { lines = n; colours = g }) i ≡ 128 + 8 * all =
    ap (λ (b : Bool). let most : ℕ = if b then 0 else 128 + 8 * all in most)
    (ap (λ v. is_same v None) is ∙ some_none c) in
    omega (arith, none, beside_few n now g (filled_part n g now i low filled) c i, stone)

-- a trace that grew by these changes
pub grown : (old new added : List Change) (most few : ℕ) → new ≡ old ++ added → length added ≤ most → most ≤ few →
    length new ≤ length old + few
grown old new added most few is short less = omega (arith, ap length is, length-append old added, short, less)

-- a sum over the numbers from i on
pub sum-rest : (f : ℕ → ℕ) (i m : ℕ) → i < m →
    sum_by f (range_with_len i (m - i)) ≡ f i + sum_by f (range_with_len (i + 1) (m - (i + 1)))
sum-rest f i m low =
    ap (λ (k : ℕ). sum_by f (range_with_len i k)) (let e : m - i ≡ suc (m - (i + 1)) = omega (arith, low) in e)
    ∙ sum_by-cons f i (range_with_len (i + 1) (m - (i + 1)))

pub sum-whole : (f : ℕ → ℕ) (m : ℕ) → sum_by f (range_with_len 0 (m - 0)) ≡ sum_by f (range_with_len 0 m)
sum-whole f m = ap (λ (k : ℕ). sum_by f (range_with_len 0 k)) (let e : m - 0 ≡ m = omega arith in e)

-- one number more, where what is left stays below a total
pub next_below : (f : ℕ → ℕ) (i m before after total : ℕ) → i < m →
    before + sum_by f (range_with_len i (m - i)) ≤ total → after ≤ before + f i
    → after + sum_by f (range_with_len (i + 1) (m - (i + 1))) ≤ total
next_below f i m before after total low was more = omega (arith, sum-rest f i m low, was, more)

pub next_fourfold : (f : ℕ → ℕ) (i m before after total : ℕ) → i < m →
    before + 4 * sum_by f (range_with_len i (m - i)) ≤ total → after ≤ before + 4 * f i
    → after + 4 * sum_by f (range_with_len (i + 1) (m - (i + 1))) ≤ total
next_fourfold f i m before after total low was more = omega (arith, sum-rest f i m low, was, more)

-- all stones together
pub all_put : (g : GridValue) → sum_by (most_to_put g) (points g.lines) ≡ most_to_fill g
all_put g = times (λ p. has_colour g.colours p None) (128 + 8 * stones_in g) (points g.lines)
  where
    step : (b : Bool) (count e : ℕ) → (if b then 0 else e) + count * e ≡ (once (not b) + count) * e
    step true count e = omega arith
    step false count e = omega arith

    times : (t : ℕ → Bool) (e : ℕ) (xs : List ℕ) →
        sum_by (λ p. if t p then 0 else e) xs ≡ count_by (λ p. not (t p)) xs * e
    times t e [] = omega arith
    times t e (x ∷ xs) =
        sum_by-cons (λ p. if t p then 0 else e) x xs ∙ ap (λ (k : ℕ). (if t x then 0 else e) + k) (times t e xs)
        ∙ step (t x) (count_by (λ p. not (t p)) xs) e
        ∙ ap (λ (k : ℕ). k * e) (sym (sum_by-cons (λ p. once (not (t p))) x xs))
