-- Where the stones of what was seen come from, after one move more or fewer.
use Rattle.std.proofs.Common.{arith, ◌≡◌, ◌<◌, ◌+◌, ◌*◌, ◌∙◌, ◌⊎◌, inl, inr, Bool, true, false, ℕ, suc, List, [], ◌∷◌, ◌++◌, Option, Some, None, if◌then◌else◌, length, refl, sym, ap, subst}
use Rattle.std.specs.Prelude.{◌↔◌, Contains, slice_set}
use Rattle.std.proofs.lemmas.Bool.{cases_eq}
use Rattle.std.proofs.lemmas.List.{get_or-set_other, get_or-set_same}
use Rattle.std.proofs.lemmas.List.Elements.{Contains-append_left, Contains-push_cases}
use Rattle.std.proofs.lemmas.List.FromFn.{get_or-map-range_with_len}
use Rattle.go_board.specs.declared.colour.Colour.{Colour}
use Rattle.go_board.specs.declared.point.Point.{Point}
use Rattle.go_board.specs.declared.vertex.Move.{Move}
use Rattle.go_board.specs.Colours.{Colouring, colour_at, other}
use Rattle.go_board.specs.Laws.{PointsByNumber}
use Rattle.go_board.specs.Points.{IsOn, number_of, point_at}
use Rattle.go_board.specs.Reaching.{after_clearing, cleared, is_taken, moved}
use Rattle.go_board.specs.Rows.{IsIn, rows_of}
use Rattle.go_board.specs.declared.rows.ByColour.{ByColour}
use Rattle.go_game.specs.declared.superko.Superko.{Superko}
use Rattle.go_game.specs.Standings.{Seen, after_move, board, seen_by, stood}
use Rattle.go_game.specs.inner.Placed.{AreOfPlaced, IsOfPlaced}
use Rattle.go_game.proofs.Turns.{stood_push}

-- clearing puts no stone
cleared_from : (n : ℕ) (g : Colouring) (c : Colour) (k : ℕ) (d : Colour) → k < n * n →
    colour_at (cleared n g c) k ≡ Some d → colour_at g k ≡ Some d
unfolding cleared
cleared_from n g c k d low e = from (is_taken n g c k)
    (sym (get_or-map-range_with_len (after_clearing n g c) 0 (n * n) k k None low
    (let z : 0 + k ≡ k = omega arith in z)) ∙ e)
  where
    from : (b : Bool) → ◌≡◌ {A = Option Colour} (if b then None else colour_at g k) (Some d) → colour_at g k ≡ Some d
    from true e = cc
    from false e = e

-- and a play puts one alone
moved_from : (n : ℕ) (g : Colouring) (c : Colour) (p k : ℕ) (d : Colour) → length g ≡ n * n → k < n * n →
    colour_at (moved n g c p) k ≡ Some d
    → ((k ≡ p) × (d ≡ c)) ⊎ (colour_at g k ≡ Some d)
unfolding moved
moved_from n g c p k d whole low e =
    let with_stone = cleared_from n (slice_set g p (Some c)) (other c) k d low
    (cleared_from n (cleared n (slice_set g p (Some c)) (other c)) c k d low e) in
    elim (cases_eq k p) [
      | inl is ↦ inl (
        is,
        (let same = sym with_stone ∙ ap (colour_at (slice_set g p (Some c))) is
            ∙ get_or-set_same g p (Some c) None (omega (arith, is, low, whole)) in cc),
      )
      | inr off ↦ inr (sym (get_or-set_other g p k (Some c) None off) ∙ with_stone)
    ]

-- what a play leaves, where its point is added
pub placed_put : PointsByNumber →
    (n : ℕ) (start now : Colouring) (placed placed' : ByColour (List ℕ)) (c : Colour) (p : Point) → length now ≡ n * n →
    IsOn n p
    → ((d : Colour) (row col : ℕ) → IsIn (rows_of placed' d) row col
    ↔ (((d ≡ c) × (row ≡ p.row) × (col ≡ p.col)) ⊎ IsIn (rows_of placed d) row col))
    → IsOfPlaced n start placed now → IsOfPlaced n start placed' (moved n now c (number_of n p))
placed_put law n start now placed placed' c p whole on added told row col d row_in col_in stone =
    let q : Point = record { col = col; row = row } in
    elim (moved_from n now c (number_of n p) (row * n + col) d whole (law.number n q (col_in, row_in)) stone) [
      | inl put ↦
          let same : q ≡ p = sym (law.back n q (col_in, row_in)) ∙ ap (point_at n) put.0 ∙ law.back n p on in
          inr ((added d row col).1 (inl (put.1, ap (λ (x : Point). x.row) same, ap (λ (x : Point). x.col) same)))
      | inr was ↦ grown placed placed' (λ e. (added d row col).1 (inr e)) (told row col d row_in col_in was)
    ]
  where
    grown : (old new : ByColour (List ℕ)) → (IsIn (rows_of old d) row col → IsIn (rows_of new d) row col)
        → (colour_at start (row * n + col) ≡ Some d) ⊎ IsIn (rows_of old d) row col →
        (colour_at start (row * n + col) ≡ Some d) ⊎ IsIn (rows_of new d) row col
    grown old new more (inl was) = inl was
    grown old new more (inr told) = inr (more told)

-- a set that has what another one has
pub placed_grown : (n : ℕ) (start : Colouring) (old new : ByColour (List ℕ)) (g : Colouring) →
    ((c : Colour) (row col : ℕ) → IsIn (rows_of old c) row col → IsIn (rows_of new c) row col)
    → IsOfPlaced n start old g → IsOfPlaced n start new g
placed_grown n start old new g more told row col c row_in col_in stone = elim (told row col c row_in col_in stone) [
  | inl was ↦ inl was
  | inr there ↦ inr (more c row col there)
]

module _ (rule : Superko) (n : ℕ) (start : Colouring) (first : Colour) where
  -- without a move the start alone was seen
  pub placed_start : (placed : ByColour (List ℕ)) (moves : List Move) → moves ≡ [] →
      AreOfPlaced n start placed (stood rule n start first moves)
  placed_start placed moves none =
      subst (λ (ms : List Move). AreOfPlaced n start placed (stood rule n start first ms)) (sym none)
      (λ x there row col c row_in col_in stone.
      inl (ap (λ (g : Colouring). colour_at g (row * n + col)) (start_is x there) ∙ stone))
    where
      start_is : (x : Seen) → Contains (stood rule n start first []) x → start ≡ x.0
      start_is x there = elim (Contains-push_cases [] (seen_by rule (start, first)) x there) [
        | inl none ↦ absurd (omega (arith, none.1))
        | inr is ↦ ap (λ (y : Seen). y.0) is
      ]

  module _ (moves more : List Move) (m : Move) (is : more ≡ moves ++ m ∷ []) where
    abbrev last : Seen
    last = seen_by rule (after_move n (board n start moves) m, other m.colour)

    all : stood rule n start first more ≡ stood rule n start first moves ++ last ∷ []
    all = ap (stood rule n start first) is ∙ stood_push rule n start first moves m

    pub placed_more : (old new : ByColour (List ℕ)) →
        ((c : Colour) (row col : ℕ) → IsIn (rows_of old c) row col → IsIn (rows_of new c) row col)
        → IsOfPlaced n start new (after_move n (board n start moves) m)
        → AreOfPlaced n start old (stood rule n start first moves) →
        AreOfPlaced n start new (stood rule n start first more)
    placed_more old new grown here before =
        subst (AreOfPlaced n start new) (sym all)
        (λ x there. elim (Contains-push_cases (stood rule n start first moves) last x there) [
          | inl earlier ↦ placed_grown n start old new x.0 grown (before x earlier)
          | inr same ↦ subst (λ (y : Seen). IsOfPlaced n start new y.0) same here
        ])

    pub placed_less : (placed : ByColour (List ℕ)) → AreOfPlaced n start placed (stood rule n start first more) →
        AreOfPlaced n start placed (stood rule n start first moves)
    placed_less placed now x there =
        now x (subst (λ (xs : List Seen). Contains xs x) (sym all)
        (Contains-append_left (stood rule n start first moves) (last ∷ []) x there))

-- what stands now was seen too
pub placed_now : (rule : Superko) (n : ℕ) (start g : Colouring) (first : Colour) (moves : List Move)
    (placed : ByColour (List ℕ)) → AreOfPlaced n start placed (stood rule n g first moves)
    → IsOfPlaced n start placed (board n g moves)
placed_now rule n start g first [] placed told = told (seen_by rule (g, first)) (0, omega arith, refl)
placed_now rule n start g first (m ∷ moves) placed told =
    placed_now rule n start (after_move n g m) (other m.colour) moves placed (λ x there. told x (later x there))
  where
    later : (x : Seen) → Contains (stood rule n (after_move n g m) (other m.colour) moves) x →
        Contains (stood rule n g first (m ∷ moves)) x
    later x there = (suc there.0, (let low = there.1 in omega (arith, low)), there.2)
