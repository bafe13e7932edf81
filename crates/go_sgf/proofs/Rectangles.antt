-- The points of a rectangle, picked out of the whole board and gone over row by row.
use Rattle.std.proofs.Common.{◌≡◌, ◌∙◌, ◌<◌, ◌≤◌, ◌*◌, ◌+◌, ◌-◌, ◌++◌, ℕ, zero, suc, Bool, true, false, List, [], ◌∷◌, refl, sym, ap, ap₂, append_assoc, inl, inr, arith, map, cond, min, max}
use Rattle.std.specs.Prelude.{◌&&◌, filter}
use Rattle.std.specs.List.{All, flat_map, range_with_len}
use Rattle.std.proofs.lemmas.Bool.{cases_Bool}
use Rattle.std.proofs.lemmas.Bool.Decides.{nat_tests}
use Rattle.std.proofs.lemmas.Grind.{common_steps, flat_map-append}
use Rattle.std.proofs.lemmas.List.{append-nil, map-append}
use Rattle.std.proofs.lemmas.List.Elements.{filter-append, All-filter, All-from_get_or, All-map, All-weaker}
use Rattle.std.proofs.lemmas.List.FromFn.{get_or-range_with_len, length-range_with_len}
use Rattle.std.proofs.lemmas.Nat.{div-mul-add, mod-mul-add, rows}
use Rattle.go_board.specs.declared.point.Point.{Point}
use Rattle.go_board.specs.Points.{IsOn, point_at}
use Rattle.go_board.specs.Reaching.{points}
use Rattle.go_sgf.specs.BoardValues.{is_between, is_in, rectangle}
use Rattle.go_sgf.specs.Rectangles.{RectangleValue, listed, row_from, points_of_row}

-- ---- runs of numbers

range_append : (a m k : ℕ) → range_with_len a (m + k) ≡ range_with_len a m ++ range_with_len (a + m) k
range_append a zero k =
    ap₂ range_with_len (let e : a ≡ a + 0 = omega arith in e) (let e : 0 + k ≡ k = omega arith in e)
range_append a (suc m) k =
    ap (range_with_len a) (let e : suc m + k ≡ suc (m + k) = omega arith in e)
    ∙ ap (λ xs. a ∷ xs) (range_append (a + 1) m k
    ∙ ap (λ j. range_with_len (a + 1) m ++ range_with_len j k) (let e : a + 1 + m ≡ a + suc m = omega arith in e))

range_more : (m : ℕ) → range_with_len 0 (m + 1) ≡ range_with_len 0 m ++ m ∷ []
range_more m = range_append 0 m 1 ∙ ap (λ j. range_with_len 0 m ++ j ∷ []) (let e : 0 + m ≡ m = omega arith in e)

-- equal values at numbers side by side
map_moved : {X : Type 0} (f g : ℕ → X) (a b m : ℕ) → ((k : ℕ) → k < m → f (a + k) ≡ g (b + k)) →
    map f (range_with_len a m) ≡ map g (range_with_len b m)
map_moved f g a b zero h = refl
map_moved f g a b (suc m) h =
    ap₂ (λ x xs. x ∷ xs)
    (ap f (let e : a ≡ a + 0 = omega arith in e) ∙ h 0 (omega arith) ∙ ap g (let e : b + 0 ≡ b = omega arith in e))
    (map_moved f g (a + 1) (b + 1) m (λ k low.
    ap f (let e : a + 1 + k ≡ a + (k + 1) = omega arith in e) ∙ h (k + 1) (omega (arith, low))
    ∙ ap g (let e : b + (k + 1) ≡ b + 1 + k = omega arith in e)))

joined_moved : {X : Type 0} (f g : ℕ → List X) (a b m : ℕ) → ((k : ℕ) → k < m → f (a + k) ≡ g (b + k)) →
    flat_map f (range_with_len a m) ≡ flat_map g (range_with_len b m)
joined_moved f g a b zero h = refl
joined_moved f g a b (suc m) h =
    ap₂ (λ x xs. x ++ xs)
    (ap f (let e : a ≡ a + 0 = omega arith in e) ∙ h 0 (omega arith) ∙ ap g (let e : b + 0 ≡ b = omega arith in e))
    (joined_moved f g (a + 1) (b + 1) m (λ k low.
    ap f (let e : a + 1 + k ≡ a + (k + 1) = omega arith in e) ∙ h (k + 1) (omega (arith, low))
    ∙ ap g (let e : b + (k + 1) ≡ b + 1 + k = omega arith in e)))

joined_none : {X : Type 0} (f : ℕ → List X) (a m : ℕ) → ((k : ℕ) → a ≤ k → k < a + m → f k ≡ []) →
    flat_map f (range_with_len a m) ≡ []
joined_none f a zero h = refl
joined_none f a (suc m) h =
    ap₂ (λ x xs. x ++ xs) (h a (omega arith) (omega arith))
    (joined_none f (a + 1) m (λ k low high. h k (omega (arith, low)) (omega (arith, high))))

-- Among the first n numbers, only `count` of them from `low` on give anything.
joined_within : {X : Type 0} (f g : ℕ → List X) (low count n : ℕ) → low + count ≤ n →
    ((k : ℕ) → k < low → f k ≡ []) → ((k : ℕ) → k < count → f (low + k) ≡ g (0 + k)) →
    ((k : ℕ) → low + count ≤ k → k < n → f k ≡ []) →
    flat_map f (range_with_len 0 n) ≡ flat_map g (range_with_len 0 count)
joined_within f g low count n fits before within after =
    let rest : ℕ = n - (low + count) in
    let whole : n ≡ low + (count + rest) = omega arith in
    let split : range_with_len 0 n ≡ range_with_len 0 low
    ++ (range_with_len low count ++ range_with_len (low + count) rest) =
    ap (range_with_len 0) whole ∙ range_append 0 low (count + rest)
    ∙ ap (λ j. range_with_len 0 low ++ range_with_len j (count + rest)) (let e : 0 + low ≡ low = omega arith in e)
    ∙ ap (λ xs. range_with_len 0 low ++ xs) (range_append low count rest) in
    ap (flat_map f) split
    ∙ flat_map-append f (range_with_len 0 low) (range_with_len low count ++ range_with_len (low + count) rest)
    ∙ ap₂ (λ xs ys. xs ++ ys)
    (joined_none f 0 low (λ k from below. before k (omega (arith, below))))
    (flat_map-append f (range_with_len low count) (range_with_len (low + count) rest)
    ∙ ap₂ (λ xs ys. xs ++ ys)
    (joined_moved f g low 0 count within)
    (joined_none f (low + count) rest (λ k from below. after k from (omega (arith, below)))))
    ∙ append-nil (flat_map g (range_with_len 0 count))

-- ---- the board, row by row

-- what is kept of a board of m rows
by_rows : {X : Type 0} (keep : X → Bool) (f : ℕ → X) (n m : ℕ) →
    filter keep (map f (range_with_len 0 (m * n))) ≡ flat_map (λ r. filter keep (map f (range_with_len (r * n) n)))
    (range_with_len 0 m)
by_rows keep f n zero = ap (λ j. filter keep (map f (range_with_len 0 j))) (let e : 0 * n ≡ 0 = omega arith in e)
by_rows keep f n (suc m) =
    let row = λ (r : ℕ). filter keep (map f (range_with_len (r * n) n)) in
    let prefix : List ℕ = range_with_len 0 (m * n) in
    let back : List ℕ = range_with_len (m * n) n in
    let split : range_with_len 0 (suc m * n) ≡ prefix ++ back =
    ap (range_with_len 0) (let e : suc m * n ≡ m * n + n = omega arith in e) ∙ range_append 0 (m * n) n
    ∙ ap (λ j. prefix ++ range_with_len j n) (let e : 0 + m * n ≡ m * n = omega arith in e) in
    let more : range_with_len 0 (suc m) ≡ range_with_len 0 m ++ m ∷ [] =
    ap (range_with_len 0) (let e : suc m ≡ m + 1 = omega arith in e) ∙ range_more m in
    ap (λ xs. filter keep (map f xs)) split ∙ ap (filter keep) (map-append f prefix back)
    ∙ filter-append keep (map f prefix) (map f back)
    ∙ ap₂ (λ xs ys. xs ++ ys) (by_rows keep f n m) (sym (append-nil (row m)))
    ∙ sym (ap (flat_map row) more ∙ flat_map-append row (range_with_len 0 m) (m ∷ []))

-- ---- one row

kept_one : {X : Type 0} (keep : X → Bool) (f : ℕ → X) (x : ℕ) (b : Bool) → keep (f x) ≡ b → (xs : List ℕ) →
    filter keep (map f (x ∷ xs)) ≡ cond b (f x ∷ filter keep (map f xs)) (filter keep (map f xs))
kept_one keep f x b e xs = ap (λ t. cond t (f x ∷ filter keep (map f xs)) (filter keep (map f xs))) e

-- what is kept of a row is joined of what is kept of each point
kept_joined : {X : Type 0} (keep : X → Bool) (f : ℕ → X) (xs : List ℕ) →
    filter keep (map f xs) ≡ flat_map (λ k. cond (keep (f k)) (f k ∷ []) []) xs
kept_joined keep f [] = refl
kept_joined keep f (x ∷ xs) = elim (cases_Bool (keep (f x))) [
  | inl e ↦
      kept_one keep f x true e xs ∙ ap (λ ys. f x ∷ ys) (kept_joined keep f xs)
      ∙ sym (ap (λ (t : Bool). cond t (f x ∷ []) [] ++ flat_map (λ k. cond (keep (f k)) (f k ∷ []) []) xs) e)
  | inr e ↦
      kept_one keep f x false e xs ∙ kept_joined keep f xs
      ∙ sym (ap (λ (t : Bool). cond t (f x ∷ []) [] ++ flat_map (λ k. cond (keep (f k)) (f k ∷ []) []) xs) e)
]

single_joined : {X : Type 0} (f : ℕ → X) (xs : List ℕ) → flat_map (λ k. f k ∷ []) xs ≡ map f xs
single_joined f [] = refl
single_joined f (x ∷ xs) = ap (λ ys. f x ∷ ys) (single_joined f xs)

-- of n points, `count` are kept from `low` on
kept_within : {X : Type 0} (keep : X → Bool) (f : ℕ → X) (low count n : ℕ) → low + count ≤ n →
    ((k : ℕ) → k < low → keep (f k) ≡ false) → ((k : ℕ) → k < count → keep (f (low + k)) ≡ true) →
    ((k : ℕ) → low + count ≤ k → k < n → keep (f k) ≡ false) →
    filter keep (map f (range_with_len 0 n)) ≡ map f (range_with_len low count)
kept_within keep f low count n fits before within after =
    let one = λ (k : ℕ). cond (keep (f k)) (f k ∷ []) [] in
    kept_joined keep f (range_with_len 0 n)
    ∙ joined_within one (λ k. f (low + k) ∷ []) low count n fits
    (λ k h. ap (λ (t : Bool). cond t (f k ∷ []) []) (before k h))
    (λ k h. ap (λ (t : Bool). cond t (f (low + k) ∷ []) []) (within k h)
    ∙ ap (λ j. f (low + j) ∷ []) (let e : k ≡ 0 + k = omega arith in e))
    (λ k h i. ap (λ (t : Bool). cond t (f k ∷ []) []) (after k h i))
    ∙ single_joined (λ k. f (low + k)) (range_with_len 0 count)
    ∙ map_moved (λ k. f (low + k)) f 0 low count (λ k h. ap (λ j. f (low + j)) (let e : 0 + k ≡ k = omega arith in e))

-- ---- between two lines

between_within : (a b x : ℕ) → min a b ≤ x → x ≤ max a b → is_between a b x ≡ true
between_within a b x low high = grind (arith, nat_tests)

between_before : (a b x : ℕ) → x < min a b → is_between a b x ≡ false
between_before a b x h = grind (arith, nat_tests)

between_after : (a b x : ℕ) → max a b < x → is_between a b x ≡ false
between_after a b x h = grind (arith, nat_tests)

both_true : (a b : Bool) → a ≡ true → b ≡ true → (a && b) ≡ true
both_true a b e f = cc

first_false : (a b : Bool) → a ≡ false → (a && b) ≡ false
first_false a b e = rw e refl

second_false : (a b : Bool) → b ≡ false → (a && b) ≡ false
second_false true b e = e
second_false false b e = refl

-- ---- the rectangle

point_in_row : (n r k : ℕ) → k < n → point_at n (r * n + k) ≡ record { col = 0 + k; row = r }
point_in_row n r k low =
    ap₂ (λ c w. let x : Point = record { col = c; row = w } in x)
    (mod-mul-add r n k low ∙ (let e : k ≡ 0 + k = omega arith in e)) (div-mul-add r n k low)

row_as : (n r : ℕ) → map (point_at n) (range_with_len (r * n) n) ≡ row_from r 0 n
row_as n r = map_moved (point_at n) (λ c. record { col = c; row = r }) (r * n) 0 n (point_in_row n r)

module _ (n : ℕ) (p q : Point) (p-on : IsOn n p) (q-on : IsOn n q) where
  row_kept : (r : ℕ) → is_between p.row q.row r ≡ true →
      filter (is_in p q) (map (point_at n) (range_with_len (r * n) n)) ≡ row_from r (min p.col q.col)
      (max p.col q.col - min p.col q.col + 1)
  row_kept r e =
      ap (filter (is_in p q)) (row_as n r)
      ∙ kept_within (is_in p q) (λ c. record { col = c; row = r }) (min p.col q.col)
      (max p.col q.col - min p.col q.col + 1) n (omega (arith, p-on.0, q-on.0))
      (λ k h. first_false (is_between p.col q.col k) (is_between p.row q.row r) (between_before p.col q.col k h))
      (λ k h. both_true (is_between p.col q.col (min p.col q.col + k)) (is_between p.row q.row r)
      (between_within p.col q.col (min p.col q.col + k) (omega arith) (omega (arith, h))) e)
      (λ k h i. first_false (is_between p.col q.col k) (is_between p.row q.row r)
      (between_after p.col q.col k (omega (arith, h))))

  row_lost : (r : ℕ) → is_between p.row q.row r ≡ false →
      filter (is_in p q) (map (point_at n) (range_with_len (r * n) n)) ≡ []
  row_lost r e =
      ap (filter (is_in p q)) (row_as n r)
      ∙ kept_within (is_in p q) (λ c. record { col = c; row = r }) 0 0 n (omega arith)
      (λ k h. second_false (is_between p.col q.col k) (is_between p.row q.row r) e)
      (λ k h. absurd (let f : ⊥ = omega (arith, h) in f))
      (λ k h i. second_false (is_between p.col q.col k) (is_between p.row q.row r) e)

  -- the rows between two opposite corners have the points of the rectangle
  pub rows_listed : (r : RectangleValue) → r.column ≡ min p.col q.col →
      r.columns ≡ max p.col q.col - min p.col q.col + 1 →
      r.row ≡ min p.row q.row → r.rows ≡ max p.row q.row - min p.row q.row + 1 → listed r ≡ rectangle n p q
  rows_listed r column columns row rows =
      sym (by_rows (is_in p q) (point_at n) n n
      ∙ joined_within (λ k. filter (is_in p q) (map (point_at n) (range_with_len (k * n) n))) (points_of_row r) r.row
      r.rows n (omega (arith, p-on.1, q-on.1))
      (λ k h. row_lost k (between_before p.row q.row k (omega (arith, h))))
      (λ k h.
      row_kept (r.row + k) (between_within p.row q.row (r.row + k) (omega arith) (omega (arith, h)))
      ∙ ap₂ (row_from (r.row + k)) (sym column) (sym columns)
      ∙ ap (λ j. row_from (r.row + j) r.column r.columns) (let e : k ≡ 0 + k = omega arith in e))
      (λ k h i. row_lost k (between_after p.row q.row k (omega (arith, h)))))

numbers_below : (m : ℕ) → All (λ k. k < m) (range_with_len 0 m)
numbers_below m =
    All-from_get_or (λ k. k < m) (range_with_len 0 m) 0
    (λ i low. let below : i < m = rw length-range_with_len at low in
    rw (get_or-range_with_len 0 m i 0 below) (omega (arith, below)))

on_at : (n k : ℕ) → k < n * n → IsOn n (point_at n k)
on_at n k low = (grind (arith, common_steps, rows), grind (arith, common_steps, rows))

-- its points are on the board
pub rectangle_on : (n : ℕ) (p q : Point) → All (IsOn n) (rectangle n p q)
rectangle_on n p q =
    All-filter (is_in p q) (IsOn n) (map (point_at n) (points n))
    (All-map (IsOn n) (point_at n) (points n)
    (All-weaker (λ k. k < n * n) (λ k. IsOn n (point_at n k)) (on_at n) (points n) (numbers_below (n * n))))

-- ---- rows, one after another

row_more : {X : Type 0} (row : ℕ → List X) (k : ℕ) →
    flat_map row (range_with_len 0 (k + 1)) ≡ flat_map row (range_with_len 0 k) ++ row k
row_more row k =
    ap (flat_map row) (range_more k) ∙ flat_map-append row (range_with_len 0 k) (k ∷ [])
    ∙ ap (λ xs. flat_map row (range_with_len 0 k) ++ xs) (append-nil (row k))

-- one row more after others
pub row_pushed : {X : Type 0} (row : ℕ → List X) (k : ℕ) (old now new one : List X) → now ≡ old
    ++ flat_map row (range_with_len 0 k) → one ≡ row k →
    new ≡ now ++ one → new ≡ old ++ flat_map row (range_with_len 0 (k + 1))
row_pushed row k old now new one far is e =
    let before = flat_map row (range_with_len 0 k) in
    e ∙ ap₂ (λ xs ys. xs ++ ys) far is ∙ append_assoc old before (row k) ∙ ap (λ xs. old ++ xs) (sym (row_more row k))
