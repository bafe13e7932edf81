-- What the cells of a kept board answer.
use Rattle.std.specs.Prelude.{◌↔◌, Option, None, Some, replicate}
use Rattle.go_board.specs.Laws.{JoinedByPath, LibertyByPath}
use Rattle.go_board.specs.lemmas.Squares.{square-le}
use Rattle.std.specs.Int.{bit_at}
use Rattle.std.proofs.Common.{ℕ, ◌+◌, ◌*◌, ◌/◌, ◌%◌, ◌^◌, ◌<◌, ◌≤◌, ◌≡◌, ◌++◌, ◌⊎◌, ◌∷◌, [], refl, sym, ap, subst, ◌∙◌, arith, inl, inr, Bool, true, false, List, length, nat_eq, bit_and, get_or}
use Rattle.std.proofs.lemmas.Bool.{cases_lt, eq-eqb, eqb-true, false_from_ne_true}
use Rattle.std.proofs.lemmas.List.{ext_get_or, get_or-replicate, get_or_past, length-replicate}
use Rattle.std.proofs.lemmas.List.FromFn.{length-range_with_len}
use Rattle.std.proofs.lemmas.List.Sums.{count_by-le-length, length-filter}
use Rattle.std.proofs.lemmas.Nat.Bits.{bit_at-zero, shr_and_one}
use Rattle.go_board.specs.declared.colour.Colour.{Colour}
use Rattle.go_board.specs.declared.point_set.TheConstants.{WORDS}
use Rattle.go_board.specs.declared.size.TheConstants.{MAX_LINES, MAX_POINTS}
use Rattle.go_board.specs.Chains.{members}
use Rattle.go_board.specs.Colours.{Colouring, colour_at}
use Rattle.go_board.specs.Packs.{byte_of, code_of, colour_coded}
use Rattle.go_board.specs.Paths.{Joined}
use Rattle.go_board.specs.Reaching.{is_liberty_of, joined, points}
use Rattle.go_chains.specs.Cells.{code_at, label_of, lib_of, next_of, size_of, word_of}
use Rattle.go_chains.specs.inner.Marked.{has_label, is_labelled}
use Rattle.go_board.specs.PointSets.{HasPoint, bit_of, has_point}
use Rattle.go_chains.specs.Rings.{ring_from}
use Rattle.go_chains.specs.inner.Rings.{IsOnRing, steps}
use Rattle.go_chains.specs.Sound.{IsKept}
use Rattle.go_chains.specs.Boards.{IsStoneOf, colouring_of}
use Rattle.go_chains.specs.inner.Tables.{IsStone, tables_of}
use Rattle.go_chains.proofs.rules.Sound.{Contains-IsOn, IsKept-tidy, IsOn-Contains, colouring-at, far_stone, length-colouring, length-ring_from, of_stone, stone-kept, tidy-kept, colouring-inside}
use Rattle.go_chains.proofs.rules.Counting.{counted}

-- two tests that hold together have one answer
pub same_answer : (a b : Bool) → (a ≡ true → b ≡ true) → (b ≡ true → a ≡ true) → a ≡ b
same_answer true b there back = sym (there refl)
same_answer false b there back = sym (false_from_ne_true b (λ t. (let e : false ≡ true = back t in absurd (cc))))

none-some : (v : Option Colour) (c : Colour) → v ≡ None → v ≡ Some c → ⊥
none-some v c e f = cc

-- cells that are all 0 have no stone
pub zero_cell : (count : ℕ) (cells : List ℕ) → cells ≡ replicate count 0 → (p : ℕ) → code_at cells p ≡ 0
zero_cell count cells zeros p = ap (λ l. get_or l p 0) zeros ∙ elim (cases_lt p count) [
  | inl inside ↦ get_or-replicate count p 0 0 inside
  | inr past ↦ get_or_past (replicate count 0) p 0 (omega (arith, length-replicate {A = ℕ} count 0))
]

module _ (n : ℕ) (cells : List ℕ) (kept : IsKept n cells) where
  pub points-kept : n * n ≤ MAX_POINTS
  points-kept = square-le n kept.small

  -- a stone's label names a point
  pub label-small : (p : ℕ) → IsStoneOf (colouring_of n cells) p → label_of cells p < MAX_POINTS
  label-small p stone =
      let low = (tidy-kept n cells kept).head_in p (stone-kept n cells kept p stone) in
      let few = points-kept in
      omega arith

  -- the stones joined to a stone are stones
  far-kept : (p q : ℕ) → IsStoneOf (colouring_of n cells) p → Joined n (colouring_of n cells) p q → q < n * n
  far-kept p q stone chain =
      (far_stone n (colouring_of n cells) cells (colouring-inside n cells) kept.sound.colours kept.sound.coded p q
      (stone-kept n cells kept p stone) chain).0.0

  pub labels_joined : JoinedByPath → (p q a b : ℕ) → IsStoneOf (colouring_of n cells) p →
      IsStoneOf (colouring_of n cells) q
      → a ≡ label_of cells p → b ≡ label_of cells q → nat_eq a b ≡ joined n (colouring_of n cells) p q
  labels_joined by p q a b p_stone q_stone a_is b_is =
      let same = kept.sound.labels p q p_stone q_stone in
      let path = by n (colouring_of n cells) p q (stone-kept n cells kept p p_stone).0 in
      same_answer (nat_eq a b) (joined n (colouring_of n cells) p q)
      (λ e. path.1 (same.0 (sym a_is ∙ eqb-true a b e ∙ b_is)))
      (λ t. eq-eqb a b (a_is ∙ same.1 (path.0 t) ∙ sym b_is))

  labelled : JoinedByPath → (p q l : ℕ) → IsStoneOf (colouring_of n cells) p → q < n * n → l ≡ label_of cells p
      → (v : Option Colour) → colour_coded (code_at cells q) ≡ v →
      is_labelled v (label_of cells q) l ≡ joined n (colouring_of n cells) p q
  labelled by p q l stone q_in l_is None e =
      sym (false_from_ne_true (joined n (colouring_of n cells) p q) (λ t. (
      let j = (by n (colouring_of n cells) p q (stone-kept n cells kept p stone).0).0 t in
      let far = far_stone n (colouring_of n cells) cells (colouring-inside n cells) kept.sound.colours kept.sound.coded
      p q (stone-kept n cells kept p stone) j in
      let held = of_stone n (colouring_of n cells) cells (colouring-inside n cells) kept.sound.colours kept.sound.coded
      q far.0 in
      none-some (colour_coded (code_at cells q)) held.0 e (sym (colouring-at n cells q q_in) ∙ held.1))))
  labelled by p q l stone q_in l_is (Some c) e =
      labels_joined by p q l (label_of cells q) stone (c, colouring-at n cells q q_in ∙ e) l_is refl

  -- a point with the label of a stone is in its chain
  pub stone_answers : JoinedByPath → (p q l : ℕ) → IsStoneOf (colouring_of n cells) p → q < n * n → l ≡ label_of cells p
      → has_label cells l q ≡ joined n (colouring_of n cells) p q
  stone_answers by p q l stone q_in l_is = labelled by p q l stone q_in l_is (colour_coded (code_at cells q)) refl

  -- how many steps along the ring of a stone lead to points
  pub ring_in : (p l i : ℕ) → IsStoneOf (colouring_of n cells) p → l ≡ label_of cells p → i < size_of cells l →
      steps (next_of cells) i p < MAX_POINTS
  ring_in p l i stone l_is low =
      let m = size_of cells (label_of cells p) in
      let q = steps (next_of cells) i p in
      let e = ap (size_of cells) l_is in
      let j = ((kept.sound.rings p stone).1 q).0
      (Contains-IsOn (next_of cells) m p q (i, omega (arith, low, e), refl)) in
      let far = far-kept p q stone j in
      omega (arith, far, points-kept)

  -- the points on the ring of a stone are those of its chain
  pub on_ring : JoinedByPath → (p q l : ℕ) → IsStoneOf (colouring_of n cells) p → l ≡ label_of cells p
      → IsOnRing (next_of cells) (size_of cells l) p q ↔ (joined n (colouring_of n cells) p q ≡ true)
  on_ring by p q l stone l_is =
      let m = size_of cells (label_of cells p) in
      let list = (kept.sound.rings p stone).1 q in
      let path = by n (colouring_of n cells) p q (stone-kept n cells kept p stone).0 in
      let e = ap (size_of cells) l_is in (
        λ on. path.1 (list.0 (Contains-IsOn (next_of cells) m p q (subst (λ k. IsOnRing (next_of cells) k p q) e on))),
        λ t. subst (λ k. IsOnRing (next_of cells) k p q) (sym e)
            (IsOn-Contains (next_of cells) m p q (list.1 (path.0 t))),
      )

  -- the lowest point on the ring of a stone is the first of its chain
  pub lowest_is : JoinedByPath → (p l r : ℕ) → IsStoneOf (colouring_of n cells) p → l ≡ label_of cells p
      → (r ≡ p) ⊎ IsOnRing (next_of cells) (size_of cells l) p r →
      ((q : ℕ) → IsOnRing (next_of cells) (size_of cells l) p q → r ≤ q)
      → (r < n * n) × (joined n (colouring_of n cells) p r ≡ true)
      × ((k : ℕ) → k < r → joined n (colouring_of n cells) p k ≡ false)
  lowest_is by p l r stone l_is on lowest =
      let g = colouring_of n cells in
      let p_in = (stone-kept n cells kept p stone).0 in
      let one : joined n g p r ≡ true = elim on [
        | inl is ↦ ap (joined n g p) is ∙ (by n g p p p_in).1 ([], refl)
        | inr ring ↦ (on_ring by p r l stone l_is).0 ring
      ] in (
        far-kept p r stone ((by n g p r p_in).0 one),
        one,
        λ k less. false_from_ne_true (joined n g p k)
            (λ t. (let past = lowest k ((on_ring by p k l stone l_is).1 t) in absurd (omega (arith, less, past)))),
      )

  pub ring_answers : JoinedByPath → (p q l : ℕ) (set : List ℕ) → IsStoneOf (colouring_of n cells) p →
      l ≡ label_of cells p
      → HasPoint set q ↔ IsOnRing (next_of cells) (size_of cells l) p q
      → has_point set q ≡ joined n (colouring_of n cells) p q
  ring_answers by p q l set stone l_is marked =
      let ring = on_ring by p q l stone l_is in
      same_answer (has_point set q) (joined n (colouring_of n cells) p q)
      (λ t. ring.0 (marked.0 (eqb-true (bit_of set q) 1 t)))
      (λ t. eq-eqb (bit_of set q) 1 (marked.1 (ring.1 t)))

  pub size_counts : JoinedByPath → (p l : ℕ) → IsStoneOf (colouring_of n cells) p → l ≡ label_of cells p
      → size_of cells l ≡ length (members n (colouring_of n cells) p)
  size_counts by p l stone l_is =
      let g = colouring_of n cells in
      let ring = ring_from (next_of cells) (size_of cells (label_of cells p)) p in
      let lists = kept.sound.rings p stone in
      let p_in = (stone-kept n cells kept p stone).0 in
      let as_many : length (members n g p) ≡ length ring = counted n (joined n g p) ring lists.0
      (λ q has. let j = (lists.1 q).0 has in (far-kept p q stone j, (by n g p q p_in).1 j))
      (λ q q_in t. (lists.1 q).1 ((by n g p q p_in).0 t)) in
      ap (size_of cells) l_is ∙ sym (length-ring_from (next_of cells) (size_of cells (label_of cells p)) p)
      ∙ sym as_many

  -- a chain has no more stones than the board has points
  pub size_fits : JoinedByPath → (p l : ℕ) → IsStoneOf (colouring_of n cells) p → l ≡ label_of cells p →
      size_of cells l ≤ n * n
  size_fits by p l stone l_is =
      let test = joined n (colouring_of n cells) p in
      let e = size_counts by p l stone l_is in
      omega (arith, length-filter test (points n), count_by-le-length test (points n), length-range_with_len 0 (n * n))

  pub size_few : JoinedByPath → (p l : ℕ) → IsStoneOf (colouring_of n cells) p → l ≡ label_of cells p →
      size_of cells l ≤ MAX_POINTS
  size_few by p l stone l_is =
      let fits = size_fits by p l stone l_is in
      let few = points-kept in
      omega arith

  pub liberty_answers : LibertyByPath → (p q l : ℕ) → IsStoneOf (colouring_of n cells) p → q < n * n →
      l ≡ label_of cells p
      → nat_eq (lib_of cells l q) 1 ≡ is_liberty_of n (colouring_of n cells) p q
  liberty_answers by p q l stone q_in l_is =
      let g = colouring_of n cells in
      let path = by n g p q (stone-kept n cells kept p stone).0 in
      let bit = kept.sound.liberties p q stone q_in in
      same_answer (nat_eq (lib_of cells l q) 1) (is_liberty_of n g p q)
      (λ e. (let free = bit.0 (ap (λ k. lib_of cells k q) (sym l_is) ∙ eqb-true (lib_of cells l q) 1 e) in
      path.1 (free.0, (free.1.0, free.1.1, free.1.2.2))))
      (λ t. (let free = path.0 t in
      eq-eqb (lib_of cells l q) 1 (ap (λ k. lib_of cells k q) l_is
      ∙ bit.1 (free.0, (free.1.0, free.1.1, (far-kept p free.1.0 stone free.1.1, q_in, free.1.2))))))

  -- a set that got the liberties of a label, and had no point
  pub free_answers : LibertyByPath → (p l : ℕ) (old set : List ℕ) → IsStoneOf (colouring_of n cells) p →
      l ≡ label_of cells p → old ≡ replicate WORDS 0
      → ((q : ℕ) → q < n * n → HasPoint set q ↔ (HasPoint old q ⊎ (lib_of cells l q ≡ 1)))
      → (q : ℕ) → q < n * n → has_point set q ≡ is_liberty_of n (colouring_of n cells) p q
  free_answers by p l old set stone l_is none put q q_in =
      let empty : bit_of old q ≡ 0 = ap (λ (w : ℕ). bit_at w (q % 64)) (zero_cell WORDS old none (q / 64))
      ∙ bit_at-zero (q % 64) in
      same_answer (has_point set q) (nat_eq (lib_of cells l q) 1)
      (λ e. elim ((put q q_in).0 (eqb-true (bit_of set q) 1 e))
      [ inl had ↦ absurd (omega (arith, had, empty)) | inr lib ↦ eq-eqb (lib_of cells l q) 1 lib ])
      (λ t. eq-eqb (bit_of set q) 1 ((put q q_in).1 (inr (eqb-true (lib_of cells l q) 1 t))))
      ∙ liberty_answers by p q l stone q_in l_is

-- the word that was read has the bit of a liberty
pub bit_read : (cells : List ℕ) (word l q at : ℕ) → word ≡ word_of cells l (at / 64) → at ≡ q →
    nat_eq (bit_and (word / 2 ^ (at % 64)) 1) 1 ≡ nat_eq (lib_of cells l q) 1
bit_read cells word l q at read is =
    ap (λ b. nat_eq b 1) (shr_and_one word (at % 64) ∙ ap (λ w. bit_at w (at % 64)) read
    ∙ ap (λ k. lib_of cells l k) is)

-- a board without stones is kept, whatever its other cells have
module _ (n : ℕ) (cells : List ℕ) (empty : (p : ℕ) → p < n * n → code_at cells p ≡ 0) where
  no_stone : (p : ℕ) → IsStone (n * n) (tables_of cells) p → ⊥
  no_stone p stone = let z = empty p stone.0 in let some : 0 < code_at cells p = stone.1 in omega arith

  pub IsKept-empty : n ≤ MAX_LINES → IsKept n cells
  IsKept-empty small =
      IsKept-tidy n cells small (λ p p_in. (let z = empty p p_in in omega arith))
      (record {
        head_in = λ p s. absurd (no_stone p s);
        head_colour = λ p s. absurd (no_stone p s);
        head_label = λ p s. absurd (no_stone p s);
        ring = λ p s. absurd (no_stone p s);
        on_ring = λ p q s. absurd (no_stone p s);
        ring_has = λ p q s. absurd (no_stone p s);
        lib_is = λ p q s. absurd (no_stone p s);
        has_lib = λ p q s. absurd (no_stone p s);
        joined = λ p q s. absurd (no_stone p s);
      })
      (λ p q s. absurd (no_stone p s)) (λ p s. absurd (no_stone p s))

  pub colouring-empty : colouring_of n cells ≡ replicate (n * n) None
  colouring-empty =
      let size = length-colouring n cells in
      ext_get_or None (colouring_of n cells) (replicate (n * n) None) (size ∙ sym (length-replicate (n * n) None))
      (λ i below. (let i_in : i < n * n = omega arith in
      colouring-at n cells i i_in ∙ ap colour_coded (empty i i_in) ∙ sym (get_or-replicate (n * n) i None None i_in)))

-- a grid with the colour of each point is that colouring
pub grid_filled : (n : ℕ) (cells : List ℕ) (colours : Colouring) (i : ℕ) → n * n ≤ i → length colours ≡ n * n
    → ((k : ℕ) → k < i → colour_at colours k ≡ colour_at (colouring_of n cells) k) → colours ≡ colouring_of n cells
grid_filled n cells colours i all whole done =
    ext_get_or None colours (colouring_of n cells) (whole ∙ sym (length-colouring n cells))
    (λ k below. done k (omega arith))

-- a list that isn't empty has a last element
pub last_split : {X : Type 0} → (xs : List X) → 0 < length xs → (prefix : List X) × (last : X)
    × (xs ≡ prefix ++ last ∷ [])
last_split [] some = absurd (omega arith)
last_split (x ∷ []) some = ([], x, refl)
last_split (x ∷ y ∷ ys) some = let rest = last_split (y ∷ ys) (omega arith) in
    (x ∷ rest.0, rest.1, ap (λ l. x ∷ l) rest.2)

-- and no point past the board has one
pub code_none : (n : ℕ) (cells : List ℕ) (k : ℕ) → n * n ≤ k → code_of (colour_at (colouring_of n cells) k) ≡ 0
code_none n cells k past = ap code_of
    (get_or_past (colouring_of n cells) k None (omega (arith, length-colouring n cells, past)))

-- nor any byte past the last point
pub byte_none : (n : ℕ) (cells : List ℕ) (i : ℕ) → n * n ≤ 4 * i → byte_of (colouring_of n cells) i ≡ 0
byte_none n cells i past =
    omega (
      arith,
      code_none n cells (4 * i) (omega arith),
      code_none n cells (4 * i + 1) (omega arith),
      code_none n cells (4 * i + 2) (omega arith),
      code_none n cells (4 * i + 3) (omega arith),
    )
