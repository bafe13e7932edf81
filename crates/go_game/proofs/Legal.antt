-- The test of legality decides it.
use Rattle.std.proofs.Common.{◌≡◌, ◌∙◌, ℕ, zero, suc, ◌<◌, ◌&&◌, ◌||◌, nat_lt, Bool, true, false, not, List, [], ◌∷◌, length, Option, Some, None, refl, ap, ap₂, arith, sym, ◌↔◌, inl, inr, ◌⊎◌, ◌≢◌}
use Rattle.std.proofs.lemmas.Bool.{ltb-true, lt-ltb, and_parts, or_right}
use Rattle.std.specs.Prelude.{Contains, slice_index_or}
use Rattle.std.specs.List.{list_any}
use lib.Pointwise.{pointwise}
use Rattle.std.proofs.lemmas.List.{get_or_default}
use Rattle.std.proofs.lemmas.Bool.Decides.{nat_tests}
use Rattle.std.proofs.lemmas.Map.Views.{Contains-from_any}
use Rattle.go_board.specs.declared.colour.Colour.{Colour}
use Rattle.go_board.specs.declared.colour.Colour.TheVariants.{Black, White}
use Rattle.go_board.specs.declared.point.Point.{Point}
use Rattle.go_board.specs.declared.vertex.Vertex.{Vertex}
use Rattle.go_board.specs.declared.vertex.Vertex.TheVariants.{Pass, At}
use Rattle.go_board.specs.Colours.{Colouring, colour_at}
use Rattle.go_board.specs.Points.{IsOn, number_of}
use Rattle.go_board.specs.Reaching.{has_colour, is_same}
use Rattle.go_game.specs.Standings.{Seen, Standing, IsLegal, IsOccupied, IsOffBoard, IsRepeat, board_of, seen_after, stood_of}
use Rattle.go_game.specs.Legal.{same_colours, same_seen, has_stood, is_open, is_repeat, is_legal}

pub same_is : (a b : Option Colour) → is_same a b ≡ true → a ≡ b
same_is None None e = refl
same_is (Some Black) (Some Black) e = refl
same_is (Some White) (Some White) e = refl
same_is None (Some b) e = cc
same_is (Some a) None e = cc
same_is (Some Black) (Some White) e = cc
same_is (Some White) (Some Black) e = cc

is_same_self : (a : Option Colour) → is_same a a ≡ true
is_same_self None = refl
is_same_self (Some Black) = refl
is_same_self (Some White) = refl

pub colours_same : (g h : Colouring) → same_colours g h ≡ true → g ≡ h
colours_same [] [] e = refl
colours_same [] (b ∷ h) e = cc
colours_same (a ∷ g) [] e = cc
colours_same (a ∷ g) (b ∷ h) e = let two = and_parts (is_same a b) (pointwise is_same g h) e in
    ap₂ (λ x xs. x ∷ xs) (same_is a b two.0) (colours_same g h two.1)

pub same_colours_self : (g : Colouring) → same_colours g g ≡ true
same_colours_self [] = refl
same_colours_self (a ∷ g) = ap₂ (λ x y. x && y) (is_same_self a) (same_colours_self g)

pub seen_same : (x y : Seen) → same_seen x y ≡ true → x ≡ y
seen_same x y e =
    let two = and_parts (same_colours x.0 y.0) (is_same x.1 y.1) e in
    ap₂ (λ (g : Colouring) (c : Option Colour). let seen : Seen = (g, c) in seen) (colours_same x.0 y.0 two.0)
    (same_is x.1 y.1 two.1)

pub same_seen_self : (x : Seen) → same_seen x x ≡ true
same_seen_self x = ap₂ (λ a b. a && b) (same_colours_self x.0) (is_same_self x.1)

any_here : (b : Bool) (g : Seen) (gs : List Seen) (rest : Bool) → b ≡ true → (b || rest) ≡ true
any_here true g gs rest e = refl
any_here false g gs rest e = cc

any_at : (g : Seen) (gs : List Seen) (k : ℕ) → k < length gs → slice_index_or gs k ([], None) ≡ g →
    list_any (same_seen g) gs ≡ true
any_at g [] k l e = absurd (omega arith)
any_at g (h ∷ gs) zero l e = any_here (same_seen g h) g gs (list_any (same_seen g) gs)
    (ap (same_seen g) e ∙ same_seen_self g)
any_at g (h ∷ gs) (suc k) l e = or_right (same_seen g h) (list_any (same_seen g) gs) (any_at g gs k (omega arith) e)

not_stood : (s : Standing) (g : Seen) (b : Bool) → has_stood s g ≡ b → (Contains (stood_of s) g → ⊥) → b ≡ false
not_stood s g true e h = absurd (h (Contains-from_any seen_same g (stood_of s) e))
not_stood s g false e h = refl

open_here : (s : Standing) (p : Point) → IsOn s.lines p → colour_at (board_of s) (number_of s.lines p) ≡ None →
    is_open s (At p) ≡ true
open_here s p on empty = ap (λ c. (nat_lt p.col s.lines && nat_lt p.row s.lines) && is_same c None) empty
    ∙ on_test p.col p.row s.lines on.0 on.1
  where
    on_test : (a b n : ℕ) → a < n → b < n → ((nat_lt a n && nat_lt b n) && true) ≡ true
    on_test a b n l m = grind (arith, nat_tests)

-- a legal move passes
pub legal_passes : (s : Standing) (c : Colour) (v : Vertex) → IsLegal s c v → is_legal s c v ≡ true
legal_passes s c Pass h = refl
legal_passes s c (At p) h =
    ap₂ (λ a b. a && not b) (open_here s p h.0 h.1) (not_stood s (seen_after s c (number_of s.lines p)) _ refl h.2)

on_or_off : (a b n : ℕ) → ((a < n) × (b < n) × ((nat_lt a n && nat_lt b n) ≡ true))
    ⊎ (((a < n) × (b < n) → ⊥) × ((nat_lt a n && nat_lt b n) ≡ false))
on_or_off a b n = on_at (nat_lt a n) (nat_lt b n) refl refl
  where
    on_at : (x y : Bool) → nat_lt a n ≡ x → nat_lt b n ≡ y → ((a < n) × (b < n) × ((nat_lt a n && nat_lt b n) ≡ true))
        ⊎ (((a < n) × (b < n) → ⊥) × ((nat_lt a n && nat_lt b n) ≡ false))
    on_at true true e f = inl (ltb-true a n e, ltb-true b n f, ap₂ (λ x y. x && y) e f)
    on_at true false e f = inr ((λ on. let t = lt-ltb b n on.1 in cc), ap₂ (λ x y. x && y) e f)
    on_at false y e f = inr ((λ on. let t = lt-ltb a n on.0 in cc), ap (λ x. x && nat_lt b n) e)

none_or_some : (a : Option Colour) → (a ≡ None) ⊎ ((a ≢ None) × (is_same a None ≡ false))
none_or_some None = inl refl
none_or_some (Some c) = inr ((λ e. cc), refl)

closed : (s : Standing) (c : Colour) (v : Vertex) → is_open s v ≡ false → is_legal s c v ≡ false
closed s c v e = ap (λ b. b && not (is_repeat s c v)) e

-- the others do not
pub off_board_fails : (s : Standing) (c : Colour) (v : Vertex) → IsOffBoard s v → is_legal s c v ≡ false
off_board_fails s c Pass h = absurd h
off_board_fails s c (At p) h = off_at (on_or_off p.col p.row s.lines)
  where
    off_at : ((p.col < s.lines) × (p.row < s.lines) × ((nat_lt p.col s.lines && nat_lt p.row s.lines) ≡ true)) ⊎
        (((p.col < s.lines) × (p.row < s.lines) → ⊥) × ((nat_lt p.col s.lines && nat_lt p.row s.lines) ≡ false))
        → is_legal s c (At p) ≡ false
    off_at (inl on) = absurd (h (on.0, on.1))
    off_at (inr off) = closed s c (At p) (ap (λ b. b && has_colour (board_of s) (number_of s.lines p) None) off.1)

pub occupied_fails : (s : Standing) (c : Colour) (v : Vertex) → IsOccupied s v → is_legal s c v ≡ false
occupied_fails s c Pass h = absurd h
occupied_fails s c (At p) h = held_at (none_or_some (colour_at (board_of s) (number_of s.lines p)))
  where
    and_false : (b : Bool) → (b && false) ≡ false
    and_false true = refl
    and_false false = refl

    held_at : (colour_at (board_of s) (number_of s.lines p) ≡ None) ⊎
        ((colour_at (board_of s) (number_of s.lines p) ≢ None) × (has_colour (board_of s) (number_of s.lines p)
        None ≡ false)) → is_legal s c (At p) ≡ false
    held_at (inl empty) = absurd (h.1 empty)
    held_at (inr held) = closed s c (At p)
        (ap (λ b. (nat_lt p.col s.lines && nat_lt p.row s.lines) && b) held.1
        ∙ and_false (nat_lt p.col s.lines && nat_lt p.row s.lines))

pub repeat_fails : (s : Standing) (c : Colour) (v : Vertex) (k : ℕ) → IsRepeat s c v k → is_legal s c v ≡ false
repeat_fails s c Pass k h = absurd h
repeat_fails s c (At p) k h =
    ap (λ b. is_open s (At p) && not b) (any_at (seen_after s c (number_of s.lines p)) (stood_of s) k h.0 h.1)
    ∙ and_false (is_open s (At p))
  where
    and_false : (b : Bool) → (b && false) ≡ false
    and_false true = refl
    and_false false = refl

-- what passes is legal
pub passes_legal : (s : Standing) (c : Colour) (v : Vertex) → is_legal s c v ≡ true → IsLegal s c v
passes_legal s c Pass e = tt
passes_legal s c (At p) e =
    let parts = and_parts (is_open s (At p)) (not (is_repeat s c (At p))) e in
    let empty = and_parts (nat_lt p.col s.lines && nat_lt p.row s.lines)
    (has_colour (board_of s) (number_of s.lines p) None) parts.0 in
    let on = and_parts (nat_lt p.col s.lines) (nat_lt p.row s.lines) empty.0 in
    let x = seen_after s c (number_of s.lines p) in (
      (ltb-true p.col s.lines on.0, ltb-true p.row s.lines on.1),
      same_is (colour_at (board_of s) (number_of s.lines p)) None empty.1,
      λ found.
          let stood = any_at x (stood_of s) found.0 found.1
          (get_or_default (stood_of s) found.0 ([], None) x found.1 ∙ found.2) in
          let wrong : false ≡ true = sym (ap not stood) ∙ parts.1 in
          cc,
    )

-- the test of legality decides it
pub legal_is : (s : Standing) (c : Colour) (v : Vertex) → (is_legal s c v ≡ true) ↔ IsLegal s c v
legal_is s c v = (passes_legal s c v, legal_passes s c v)
