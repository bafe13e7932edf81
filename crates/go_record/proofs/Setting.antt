-- How points are set, value by value and row by row.
use Rattle.std.proofs.Common.{◌≡◌, ◌∙◌, ◌<◌, ◌+◌, ◌++◌, ℕ, zero, suc, List, [], ◌∷◌, refl, sym, ap, ap₂, subst, append_assoc, arith, drop, length, map, take}
use Rattle.std.specs.Prelude.{Option, Some, None, slice_set}
use Rattle.std.specs.List.{All, flat_map, range_with_len}
use Rattle.std.proofs.Math.Seq.{drop-append_seam, take-append_seam}
use Rattle.std.proofs.lemmas.Grind.{flat_map-append}
use Rattle.std.proofs.lemmas.List.{append-nil}
use Rattle.std.proofs.lemmas.List.Elements.{All-drop, All-take}
use Rattle.std.proofs.lemmas.List.Folds.{flat_map-map}
use Rattle.std.proofs.lemmas.List.FromFn.{map-range_with_len_more}
use Rattle.go_board.specs.declared.colour.Colour.{Colour}
use Rattle.go_board.specs.declared.point.Point.{Point}
use Rattle.go_board.specs.Colours.{Colouring}
use Rattle.go_board.specs.Points.{number_of}
use Rattle.go_sgf.specs.BoardValues.{both, points_listed, points_by_values}
use Rattle.go_record.specs.Walks.{with_points}

pub with_points_append : (n : ℕ) (c : Option Colour) (g : Colouring) (ps qs : List Point) →
    with_points n c g (ps ++ qs) ≡ with_points n c (with_points n c g ps) qs
with_points_append n c g [] qs = refl
with_points_append n c g (p ∷ ps) qs = with_points_append n c (slice_set g (number_of n p) c) ps qs

-- The points of the values before these are set.
pub record SetSoFar (n : ℕ) (c : Option Colour) (g : Colouring) (values later : List (List ℕ)) (new : Colouring) :
    Type 0 where
  pub set : List Point
  pub split : both (Some set) (points_by_values n later) ≡ points_by_values n values
  pub colours : new ≡ with_points n c g set

both_joined : (ps qs : List Point) (o : Option (List Point)) →
    both (Some (ps ++ qs)) o ≡ both (Some ps) (both (Some qs) o)
both_joined ps qs None = refl
both_joined ps qs (Some rs) = ap Some (append_assoc ps qs rs)

-- one value more
pub set_more : (n : ℕ) (c : Option Colour) (g : Colouring) (values : List (List ℕ)) (value : List ℕ)
    (later : List (List ℕ)) (new newer : Colouring) (ps : List Point) →
    SetSoFar n c g values (value ∷ later) new → Some ps ≡ points_listed n value → newer ≡ with_points n c new ps →
    SetSoFar n c g values later newer
set_more n c g values value later new newer ps h is more = record {
  set = h.set ++ ps;
  split =
      both_joined h.set ps (points_by_values n later)
      ∙ ap (λ (o : Option (List Point)). both (Some h.set) (both o (points_by_values n later))) is ∙ h.split;
  colours = more ∙ ap (λ (g : Colouring). with_points n c g ps) h.colours ∙ sym (with_points_append n c g h.set ps);
}

-- at first none is set
pub set_first : (n : ℕ) (c : Option Colour) (g : Colouring) (values : List (List ℕ)) → SetSoFar n c g values values g
set_first n c g values = record { set = []; split = none_before (points_by_values n values); colours = refl }
  where
    none_before : (o : Option (List Point)) → both (Some []) o ≡ o
    none_before None = refl
    none_before (Some ps) = refl

-- all are set
pub set_whole : (n : ℕ) (c : Option Colour) (g : Colouring) (values remaining : List (List ℕ)) (new : Colouring) →
    remaining ≡ [] → SetSoFar n c g values remaining new →
    (ps : List Point) × (points_by_values n values ≡ Some ps) × (new ≡ with_points n c g ps)
set_whole n c g values remaining new none h = (
  h.set,
  sym h.split ∙ ap (λ (vs : List (List ℕ)). both (Some h.set) (points_by_values n vs)) none
      ∙ ap Some (append-nil h.set),
  h.colours,
)

-- a value is malformed
pub set_bad : (n : ℕ) (c : Option Colour) (g : Colouring) (values : List (List ℕ)) (value : List ℕ)
    (later : List (List ℕ)) (new : Colouring) →
    SetSoFar n c g values (value ∷ later) new → points_listed n value ≡ None → points_by_values n values ≡ None
set_bad n c g values value later new h e =
    sym h.split ∙ ap (λ (o : Option (List Point)). both (Some h.set) (both o (points_by_values n later))) e

-- ---- row by row

prefix_of : {X : Type 0} (P : X → Type 0) (xs ys : List X) → All P (xs ++ ys) → All P xs
prefix_of P xs ys h = let prefix : All P (take (length xs) (xs ++ ys)) = All-take P (length xs) (xs ++ ys) h in
    rw take-append_seam at prefix

back_of : {X : Type 0} (P : X → Type 0) (xs ys : List X) → All P (xs ++ ys) → All P ys
back_of P xs ys h = let back : All P (drop (length xs) (xs ++ ys)) = All-drop P (length xs) (xs ++ ys) h in
    rw drop-append_seam at back

-- what holds of all points holds of those of a row
pub all_in_row : {X : Type 0} (P : X → Type 0) (row : ℕ → List X) (a m k : ℕ) → k < m →
    All P (flat_map row (range_with_len a m)) → All P (row (a + k))
all_in_row P row a zero k low h = absurd (let e : ⊥ = omega (arith, low) in e)
all_in_row P row a (suc m) zero low h =
    subst (λ (j : ℕ). All P (row j)) (let e : a ≡ a + 0 = omega arith in e)
    (prefix_of P (row a) (flat_map row (range_with_len (a + 1) m)) h)
all_in_row P row a (suc m) (suc k) low h =
    subst (λ (j : ℕ). All P (row j)) (let e : a + 1 + k ≡ a + suc k = omega arith in e)
    (all_in_row P row (a + 1) m k (omega (arith, low)) (back_of P (row a) (flat_map row (range_with_len (a + 1) m)) h))

-- one row more
pub row_more : {X : Type 0} (row : ℕ → List X) (k : ℕ) →
    flat_map row (range_with_len 0 (k + 1)) ≡ flat_map row (range_with_len 0 k) ++ row k
row_more row k =
    let same : (m : ℕ) → flat_map row (map (λ j. j) (range_with_len 0 m)) ≡ flat_map row (range_with_len 0 m) = λ m.
    flat_map-map row (λ j. j) (range_with_len 0 m) in
    sym (same (k + 1)) ∙ ap (flat_map row) (map-range_with_len_more (λ j. j) 0 k k (omega arith))
    ∙ flat_map-append row (map (λ j. j) (range_with_len 0 k)) (k ∷ [])
    ∙ ap₂ (λ xs ys. xs ++ ys) (same k) (append-nil (row k))
