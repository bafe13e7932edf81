-- What stood by each of the two rules.
use Rattle.std.proofs.Common.{arith, ◌≡◌, ◌<◌, ◌↔◌, ℕ, zero, suc, List, [], ◌∷◌, Some, None, Contains, length, slice_index_or, map, ap, refl, sym, subst}
use Rattle.std.proofs.Math.ListN.{length-map}
use Rattle.go_board.specs.declared.colour.Colour.{Colour}
use Rattle.go_board.specs.declared.point.Point.{Point}
use Rattle.go_board.specs.declared.vertex.Move.{Move}
use Rattle.go_board.specs.Colours.{Colouring, other}
use Rattle.go_board.specs.Points.{number_of}
use Rattle.go_board.specs.Reaching.{moved}
use Rattle.go_game.specs.declared.superko.Superko.{Superko}
use Rattle.go_game.specs.declared.superko.Superko.TheVariants.{Positional, Situational}
use Rattle.go_game.specs.Standings.{Seen, Situation, Standing, after_move, board_of, positions, positions_of, seen_after, seen_by, situations_of, stood, stood_of}

module _ {X Y : Type 0} (f : X → Y) (same : (x y : X) → f x ≡ f y → x ≡ y) where
  found_in : (xs : List X) (k : ℕ) (x : X) (y z : Y) → k < length xs → slice_index_or (map f xs) k z ≡ f x →
      slice_index_or xs k x ≡ x
  found_in [] k x y z low e = absurd (omega (arith, low))
  found_in (h ∷ xs) zero x y z low e = same h x e
  found_in (h ∷ xs) (suc k) x y z low e = found_in xs k x y z (omega (arith, low)) e

  found_out : (xs : List X) (k : ℕ) (x : X) (z : Y) → k < length xs → slice_index_or xs k x ≡ x →
      slice_index_or (map f xs) k z ≡ f x
  found_out [] k x z low e = absurd (omega (arith, low))
  found_out (h ∷ xs) zero x z low e = ap f e
  found_out (h ∷ xs) (suc k) x z low e = found_out xs k x z (omega (arith, low)) e

  -- what is seen apart is found where it was
  among : (xs : List X) (x : X) → Contains (map f xs) (f x) ↔ Contains xs x
  among xs x = (
    λ h. (
      h.0,
      let low = h.1 in let long = length-map xs f in omega (arith, low, long),
      found_in xs h.0 x (f x) (f x) (let low = h.1 in let long = length-map xs f in omega (arith, low, long)) h.2,
    ),
    λ h. (
      h.0,
      let low = h.1 in let long = length-map xs f in omega (arith, low, long),
      found_out xs h.0 x (f x) h.1 h.2,
    ),
  )

abbrev alone : Colouring → Seen
alone g = (g, None)

by_positions : (n : ℕ) (g : Colouring) (c : Colour) (moves : List Move) →
    stood Positional n g c moves ≡ map alone (positions n g moves)
by_positions n g c [] = refl
by_positions n g c (m ∷ moves) =
    ap (λ (xs : List Seen). alone g ∷ xs) (by_positions n (after_move n g m) (other m.colour) moves)

pub positional_rule : (s : Standing) (c : Colour) (p : Point) → s.rule ≡ Positional
    → Contains (stood_of s) (seen_after s c (number_of s.lines p))
    ↔ Contains (positions_of s) (moved s.lines (board_of s) c (number_of s.lines p))
positional_rule s c p is =
    subst (λ (rule : Superko). Contains (stood rule s.lines s.start s.first s.moves)
    (seen_by rule (moved s.lines (board_of s) c (number_of s.lines p), other c)) ↔ Contains (positions_of s)
    (moved s.lines (board_of s) c (number_of s.lines p))) (sym is)
    (subst (λ (xs : List Seen). Contains xs (alone (moved s.lines (board_of s) c (number_of s.lines p))) ↔ Contains
    (positions_of s) (moved s.lines (board_of s) c (number_of s.lines p)))
    (sym (by_positions s.lines s.start s.first s.moves))
    (among alone (λ g h e. ap (λ (x : Seen). x.0) e) (positions_of s)
    (moved s.lines (board_of s) c (number_of s.lines p))))

abbrev mover_in : Colour → Seen → Colour
mover_in d (g, None) = d
mover_in d (g, Some c) = c

same_situation : (x y : Situation) → seen_by Situational x ≡ seen_by Situational y → x ≡ y
same_situation x y e = ap (λ (z : Seen). let w : Situation = (z.0, mover_in x.1 z) in w) e

pub situational_rule : (s : Standing) (c : Colour) (p : Point) → s.rule ≡ Situational
    → Contains (stood_of s) (seen_after s c (number_of s.lines p))
    ↔ Contains (situations_of s) (moved s.lines (board_of s) c (number_of s.lines p), other c)
situational_rule s c p is =
    subst (λ (rule : Superko). Contains (stood rule s.lines s.start s.first s.moves)
    (seen_by rule (moved s.lines (board_of s) c (number_of s.lines p), other c)) ↔ Contains (situations_of s)
    (moved s.lines (board_of s) c (number_of s.lines p), other c)) (sym is)
    (among (seen_by Situational) same_situation (situations_of s)
    (moved s.lines (board_of s) c (number_of s.lines p), other c))
