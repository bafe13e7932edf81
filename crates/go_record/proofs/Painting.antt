-- Points as values are read back, and set up they give the colouring that they were listed from.
use Rattle.std.proofs.Common.{◌≡◌, ◌≢◌, ◌∙◌, ◌<◌, ◌≤◌, ◌*◌, ◌+◌, ◌-◌, ◌++◌, ℕ, zero, suc, Bool, true, false, true≢false, List, [], ◌∷◌, refl, sym, ap, ap₂, subst, inl, inr, arith, length, map, replicate, if◌then◌else◌}
use Rattle.std.specs.Prelude.{Option, Some, None, ◌==◌, filter, position, option_map, slice_set}
use Rattle.std.specs.List.{range_with_len, AllByRecursion}
use Rattle.std.proofs.lemmas.Bool.{cases_lt, le-leb, lt-ltb}
use Rattle.std.proofs.lemmas.Grind.{common_steps}
use Rattle.std.proofs.lemmas.Nat.{rows}
use Rattle.std.proofs.lemmas.List.{ext_get_or, get_or-set_other, get_or-set_same, length-set, length-replicate, get_or-replicate}
use Rattle.go_board.specs.declared.colour.Colour.{Colour}
use Rattle.go_board.specs.declared.colour.Colour.TheVariants.{Black, White}
use Rattle.go_board.specs.declared.point.Point.{Point}
use Rattle.go_board.specs.declared.size.TheConstants.{MAX_LINES}
use Rattle.go_board.specs.declared.vertex.Vertex.{Vertex}
use Rattle.go_board.specs.declared.vertex.Vertex.TheVariants.{Pass, At}
use Rattle.go_board.specs.Colours.{Colouring, colour_at}
use Rattle.go_board.specs.Points.{IsOn, number_of, point_at}
use Rattle.go_board.specs.Reaching.{has_colour, is_same}
use Rattle.go_board.specs.Vertices.{IsOnBoard}
use Rattle.go_sgf.specs.BoardValues.{both, is_pass_word, names_line, point_in, vertex_in, points_alone, points_by, points_listed, points_by_values, vertex_by}
use Rattle.go_record.specs.Records.{point_value, points_coloured, vertex_value}
use Rattle.go_record.specs.Walks.{with_points}
use Rattle.go_record.proofs.Spelled.{NoSpace, all_append, all_weaker, low_no_space, trimmed_same, unequal}
use Rattle.go_record.proofs.Writes.{chosen_more}

-- ---- points as values

pub back_at : (n k : ℕ) → k < n * n → number_of n (point_at n k) ≡ k
back_at n k low = grind (arith, common_steps, rows)

pub on_at : (n k : ℕ) → k < n * n → IsOn n (point_at n k)
on_at n k low = (grind (arith, common_steps, rows), grind (arith, common_steps, rows))

line_named : (n c : ℕ) → n ≤ MAX_LINES → c < n → names_line n (97 + c) ≡ true
line_named n c small low =
    rw (
      le-leb 97 (97 + c) (omega arith),
      le-leb (97 + c) 122 (omega (arith, small, low)),
      lt-ltb (97 + c - 97) n (omega (arith, low)),
    ) refl

letter_clean : (c : ℕ) → NoSpace (97 + c)
letter_clean c = low_no_space (97 + c) (omega arith) (λ e. omega (arith, e))

value_clean : (n : ℕ) (p : Point) → AllByRecursion NoSpace (point_value n p)
value_clean n p = (letter_clean p.col, (letter_clean (n - 1 - p.row), tt))

pub point_read : (n : ℕ) (p : Point) → n ≤ MAX_LINES → IsOn n p → point_in n (point_value n p) ≡ Some p
point_read n p small on =
    let col : 97 + p.col - 97 ≡ p.col = omega arith in
    let row : n - 1 - (97 + (n - 1 - p.row) - 97) ≡ p.row = omega (arith, on.1) in
    rw (line_named n p.col small on.0, line_named n (n - 1 - p.row) small (omega (arith, on.1)))
    (ap₂ (λ c r. let q : Option Point = Some (record { col = c; row = r }) in q) col row)

pub vertex_read : (n : ℕ) (v : Vertex) → n ≤ MAX_LINES → IsOnBoard n v → vertex_in n (vertex_value n v) ≡ Some v
vertex_read n Pass small on = refl
vertex_read n (At p) small on =
    ap (λ (w : List ℕ). vertex_by (point_in n w) (is_pass_word w)) (trimmed_same (point_value n p) (value_clean n p))
    ∙ ap (λ (o : Option Point). vertex_by o (is_pass_word (point_value n p))) (point_read n p small on)

no_colon : (a b : ℕ) → position (λ c. c == 58) ((97 + a) ∷ (97 + b) ∷ []) ≡ None
no_colon a b = rw (unequal (97 + a) 58 (λ e. omega (arith, e)), unequal (97 + b) 58 (λ e. omega (arith, e))) refl

one_read : (n : ℕ) (p : Point) → n ≤ MAX_LINES → IsOn n p → points_listed n (point_value n p) ≡ Some (p ∷ [])
one_read n p small on =
    ap (points_by n (point_value n p)) (no_colon p.col (n - 1 - p.row))
    ∙ ap (points_alone n) (trimmed_same (point_value n p) (value_clean n p))
    ∙ ap (option_map (λ q. q ∷ [])) (point_read n p small on)

pub points_read : (n : ℕ) (ks : List ℕ) → n ≤ MAX_LINES → AllByRecursion (λ k. k < n * n) ks →
    points_by_values n (map (λ k. point_value n (point_at n k)) ks) ≡ Some (map (point_at n) ks)
points_read n [] small h = refl
points_read n (k ∷ ks) small h = ap₂ both (one_read n (point_at n k) small (on_at n k h.0)) (points_read n ks small h.1)

-- ---- points set up by their numbers

abbrev pub set_numbers : Option Colour → Colouring → List ℕ → Colouring
set_numbers c g [] = g
set_numbers c g (k ∷ ks) = set_numbers c (slice_set g k c) ks

pub set_by_numbers : (n : ℕ) (c : Option Colour) (ks : List ℕ) (g : Colouring) → AllByRecursion (λ k. k < n * n) ks →
    with_points n c g (map (point_at n) ks) ≡ set_numbers c g ks
set_by_numbers n c [] g h = refl
set_by_numbers n c (k ∷ ks) g h =
    ap (λ (j : ℕ). with_points n c (slice_set g j c) (map (point_at n) ks)) (back_at n k h.0)
    ∙ set_by_numbers n c ks (slice_set g k c) h.1

set_append : (c : Option Colour) (g : Colouring) (xs ys : List ℕ) →
    set_numbers c g (xs ++ ys) ≡ set_numbers c (set_numbers c g xs) ys
set_append c g [] ys = refl
set_append c g (x ∷ xs) ys = set_append c (slice_set g x c) xs ys

set_length : (c : Option Colour) (ks : List ℕ) (g : Colouring) → length (set_numbers c g ks) ≡ length g
set_length c [] g = refl
set_length c (k ∷ ks) g = set_length c ks (slice_set g k c) ∙ length-set g k c

module _ (test : ℕ → Bool) (c : Option Colour) (g : Colouring) where
  -- the points below m that pass the test
  abbrev pub painted : ℕ → Colouring
  painted m = set_numbers c g (filter test (range_with_len 0 m))

  step_is : (b : Bool) (m : ℕ) (p : Colouring) →
      set_numbers c p (if b then m ∷ [] else []) ≡ (if b then slice_set p m c else p)
  step_is true m p = refl
  step_is false m p = refl

  painted_more : (m : ℕ) → painted (suc m) ≡ (if test m then slice_set (painted m) m c else painted m)
  painted_more m =
      ap painted (let e : suc m ≡ m + 1 = omega arith in e)
      ∙ ap (set_numbers c g) (chosen_more test m)
      ∙ set_append c g (filter test (range_with_len 0 m)) (if test m then m ∷ [] else [])
      ∙ step_is (test m) m (painted m)

  unlike : (j m : ℕ) → test j ≡ false → test m ≡ true → j ≢ m
  unlike j m off on = λ e. absurd (true≢false (sym on ∙ ap test (sym e) ∙ off))

  other_step : (m j : ℕ) (b : Bool) → test m ≡ b → (b ≡ true → j ≢ m) →
      colour_at (if b then slice_set (painted m) m c else painted m) j ≡ colour_at (painted m) j
  other_step m j true e f = get_or-set_other (painted m) m j c None (f refl)
  other_step m j false e f = refl

  -- other points stay
  pub painted_other : (m j : ℕ) → test j ≡ false → colour_at (painted m) j ≡ colour_at g j
  painted_other zero j off = refl
  painted_other (suc m) j off =
      ap (λ (h : Colouring). colour_at h j) (painted_more m) ∙ other_step m j (test m) refl (λ on. unlike j m off on)
      ∙ painted_other m j off

  same_step : (m : ℕ) (b : Bool) → b ≡ true → m < length (painted m) →
      colour_at (if b then slice_set (painted m) m c else painted m) m ≡ c
  same_step m true e low = get_or-set_same (painted m) m c None low
  same_step m false e low = absurd (true≢false (sym e))

  -- these get the colour
  pub painted_same : (m j : ℕ) → m ≤ length g → j < m → test j ≡ true → colour_at (painted m) j ≡ c
  painted_same zero j few low on = absurd (let e : ⊥ = omega (arith, low) in e)
  painted_same (suc m) j few low on = elim (cases_lt j m) [
    | inl before ↦
        ap (λ (h : Colouring). colour_at h j) (painted_more m)
        ∙ other_step m j (test m) refl (λ e x. omega (arith, before, x))
        ∙ painted_same m j (omega (arith, few)) before on
    | inr after ↦
        let is : j ≡ m = omega (arith, low, after) in
        let room : m < length (painted m) =
        rw (set_length c (filter test (range_with_len 0 m)) g) (omega (arith, few)) in
        ap (λ (h : Colouring). colour_at h j) (painted_more m)
        ∙ ap (λ (i : ℕ). colour_at (if test m then slice_set (painted m) m c else painted m) i) is
        ∙ same_step m (test m) (ap test (sym is) ∙ on) room
  ]

below_step : (test : ℕ → Bool) (m : ℕ) (b : Bool) → AllByRecursion (λ k. k < m) (filter test (range_with_len 0 m)) →
    AllByRecursion (λ k. k < suc m) (filter test (range_with_len 0 m) ++ (if b then m ∷ [] else []))
below_step test m true h =
    all_append (λ k. k < suc m) (filter test (range_with_len 0 m)) (m ∷ [])
    (all_weaker {P = λ k. k < m} {Q = λ k. k < suc m} (λ k low. omega (arith, low))
    (filter test (range_with_len 0 m)) h) (omega arith, tt)
below_step test m false h =
    all_append (λ k. k < suc m) (filter test (range_with_len 0 m)) []
    (all_weaker {P = λ k. k < m} {Q = λ k. k < suc m} (λ k low. omega (arith, low))
    (filter test (range_with_len 0 m)) h) tt

pub all_below : (test : ℕ → Bool) (m : ℕ) → AllByRecursion (λ k. k < m) (filter test (range_with_len 0 m))
all_below test zero = tt
all_below test (suc m) =
    subst (AllByRecursion (λ k. k < suc m))
    (sym (ap (λ (i : ℕ). filter test (range_with_len 0 i)) (let e : suc m ≡ m + 1 = omega arith in e)
    ∙ chosen_more test m))
    (below_step test m (test m) (all_below test m))

-- ---- a colouring from its stones

by_colour : (n : ℕ) (g empty black full : Colouring) (j : ℕ) →
    (has_colour g j (Some Black) ≡ true → colour_at black j ≡ Some Black) →
    (has_colour g j (Some Black) ≡ false → colour_at black j ≡ colour_at empty j) →
    (has_colour g j (Some White) ≡ true → colour_at full j ≡ Some White) →
    (has_colour g j (Some White) ≡ false → colour_at full j ≡ colour_at black j) →
    colour_at empty j ≡ None → (c : Option Colour) → colour_at g j ≡ c → colour_at full j ≡ colour_at g j
by_colour n g empty black full j b0 b1 w0 w1 none None e =
    w1 (ap (λ x. is_same x (Some White)) e) ∙ b1 (ap (λ x. is_same x (Some Black)) e) ∙ none ∙ sym e
by_colour n g empty black full j b0 b1 w0 w1 none (Some Black) e =
    w1 (ap (λ x. is_same x (Some White)) e) ∙ b0 (ap (λ x. is_same x (Some Black)) e) ∙ sym e
by_colour n g empty black full j b0 b1 w0 w1 none (Some White) e = w0 (ap (λ x. is_same x (Some White)) e) ∙ sym e

pub start_back : (n : ℕ) (g : Colouring) → length g ≡ n * n →
    set_numbers (Some White) (set_numbers (Some Black) (replicate (n * n) None) (points_coloured n g Black))
    (points_coloured n g White) ≡ g
start_back n g whole =
    let m = n * n in
    let is_black = λ (k : ℕ). has_colour g k (Some Black) in
    let is_white = λ (k : ℕ). has_colour g k (Some White) in
    let empty : Colouring = replicate m None in
    let black : Colouring = painted is_black (Some Black) empty m in
    let full : Colouring = painted is_white (Some White) black m in
    let black_long : length black ≡ m = set_length (Some Black) (points_coloured n g Black) empty
    ∙ length-replicate m None in
    let full_long : length full ≡ m = set_length (Some White) (points_coloured n g White) black ∙ black_long in
    let inside : (j : ℕ) → j < length full → j < m = λ j low. omega (arith, low, full_long) in
    ext_get_or None full g (full_long ∙ sym whole) (λ j low. by_colour n g empty black full j
    (painted_same is_black (Some Black) empty m j (omega (arith, length-replicate {A = Option Colour} m None))
    (inside j low)) (painted_other is_black (Some Black) empty m j)
    (painted_same is_white (Some White) black m j (omega (arith, black_long)) (inside j low))
    (painted_other is_white (Some White) black m j)
    (get_or-replicate m j None None (inside j low)) (colour_at g j) refl)
