-- A board built stone by stone: where the stones of a grid live, those of a part of it do, so placing one takes none.
use Rattle.std.specs.Prelude.{replicate, slice_set}
use Rattle.go_board.specs.Laws.{ReachesByPath}
use Rattle.std.proofs.Common.{arith, ◌≡◌, ◌<◌, ◌≤◌, ◌+◌, ◌*◌, ◌∙◌, ◌&&◌, Bool, true, false, not, cond, inl, inr, ℕ, List, [], ◌∷◌, Option, Some, None, length, refl, sym, ap, subst}
use Rattle.std.proofs.lemmas.Bool.{cases_Bool, cases_eq, cases_lt, false≢true, and_parts}
use Rattle.std.proofs.lemmas.List.{ext_get_or, get_or-replicate, get_or-set_other, get_or-set_same, get_or_past, length-replicate, length-set}
use Rattle.std.proofs.lemmas.List.FromFn.{get_or-map-range_with_len, length-map-range_with_len}
use Rattle.go_board.specs.declared.colour.Colour.{Colour}
use Rattle.go_board.specs.declared.colour.Colour.TheVariants.{Black, White}
use Rattle.go_board.specs.Colours.{Colouring, colour_at, other}
use Rattle.go_board.specs.Paths.{IsAdjacent, Leads, Reaches}
use Rattle.go_board.specs.Living.{AreAlive}
use Rattle.go_game.specs.inner.Building.{IsFilledTo, IsPart}
use Rattle.go_board.specs.Reaching.{after_clearing, cleared, has_colour, is_same, is_taken, moved, reaches}

-- a path to an empty point of the whole comes to one of the part, sooner or later
follow : (n : ℕ) (f g : Colouring) → IsPart f g → (p : ℕ) (via : List ℕ) (q r : ℕ) → colour_at f p ≡ colour_at g p →
    Leads n g p via q → IsAdjacent n q r → colour_at g r ≡ None → Reaches n f p None
follow n f g part p [] q r same leads near empty =
    let near_p : IsAdjacent n p r = subst (λ (k : ℕ). IsAdjacent n k r) (sym leads) near in
    (p, r, ([], refl), near_p, elim (part r) [ inl is ↦ is ∙ empty | inr none ↦ none ])
follow n f g part p (x ∷ via) q r same leads near empty = elim (part x) [
  | inr none ↦ (p, x, ([], refl), leads.0, none)
  | inl is ↦
      let rest = follow n f g part x via q r is leads.2 near empty in
      let colours : colour_at f x ≡ colour_at f p = is ∙ leads.1 ∙ sym same in
      (rest.0, rest.1, (x ∷ rest.2.0, (leads.0, colours, rest.2.1)), rest.3, rest.4)
]

not-true : (b : Bool) → not b ≡ true → b ≡ true → ⊥
not-true true gone is = false≢true gone
not-true false gone is = false≢true is

pub same-true : (a : Option Colour) (c : Colour) → is_same a (Some c) ≡ true → is_same a None ≡ false
same-true None c e = absurd (false≢true e)
same-true (Some Black) c e = refl
same-true (Some White) c e = refl

-- so no stone of a part is taken
part_lives : ReachesByPath → (n : ℕ) (f g : Colouring) → AreAlive n g → IsPart f g → (c : Colour) (k : ℕ) → k < n * n →
    is_taken n f c k ≡ false
part_lives law n f g alive part c k low = elim (cases_Bool (is_taken n f c k)) [
  | inr stays ↦ stays
  | inl taken ↦
      let parts = and_parts (has_colour f k (Some c)) (not (reaches n f k None)) taken in
      let stone : is_same (colour_at f k) None ≡ false = same-true (colour_at f k) c parts.0 in
      elim (part k) [
        | inr none ↦ absurd (false≢true (sym stone ∙ ap (λ v. is_same v None) none))
        | inl same ↦
            let in_g : is_same (colour_at g k) None ≡ false = ap (λ v. is_same v None) (sym same) ∙ stone in
            elim (cases_Bool (reaches n g k None)) [
              | inr dead ↦ absurd (false≢true
                  (sym (alive k low) ∙ ap (λ b. not b && not (reaches n g k None)) in_g ∙ ap not dead))
              | inl lives ↦
                  let path = (law n g k None low).0 lives in
                  absurd (not-true (reaches n f k None) parts.1
                  ((law n f k None low).1 (follow n f g part k path.2.0 path.0 path.1 same path.2.1 path.3 path.4)))
            ]
      ]
]

-- clearing takes nothing where nothing is taken
clears_none : (n : ℕ) (f : Colouring) (c : Colour) → length f ≡ n * n →
    ((k : ℕ) → k < n * n → is_taken n f c k ≡ false) → cleared n f c ≡ f
unfolding cleared
clears_none n f c whole none =
    let size = length-map-range_with_len (after_clearing n f c) 0 (n * n) in
    ext_get_or None (cleared n f c) f (size ∙ sym whole) (λ k below.
    let low : k < n * n = omega (arith, size) in
    get_or-map-range_with_len (after_clearing n f c) 0 (n * n) k k None low (omega arith)
    ∙ ap (λ b. let v : Option Colour = cond b None (colour_at f k) in v) (none k low))

-- a stone of a living grid, placed on a part of it, takes nothing
pub moved_part : ReachesByPath → (n : ℕ) (f g : Colouring) (c : Colour) (p : ℕ) → length f ≡ n * n → AreAlive n g →
    IsPart (slice_set f p (Some c)) g → moved n f c p ≡ slice_set f p (Some c)
unfolding moved
moved_part law n f g c p whole alive part =
    let h = slice_set f p (Some c) in
    let size : length h ≡ n * n = length-set f p (Some c) ∙ whole in
    ap (λ (k : Colouring). cleared n k c) (clears_none n h (other c) size (part_lives law n h g alive part (other c)))
    ∙ clears_none n h c size (part_lives law n h g alive part c)

-- one stone more of the grid
pub filled_stone : (n : ℕ) (g now : Colouring) (i : ℕ) (c : Colour) → i < n * n → length g ≡ n * n
    → colour_at g i ≡ Some c → IsFilledTo n g i now → IsFilledTo n g (i + 1) (slice_set now i (Some c))
    × IsPart (slice_set now i (Some c)) g
filled_stone n g now i c low whole is filled = (next, part)
  where
    size : length (slice_set now i (Some c)) ≡ n * n
    size = length-set now i (Some c) ∙ filled.whole

    here : colour_at (slice_set now i (Some c)) i ≡ Some c
    here = get_or-set_same now i (Some c) None (omega (arith, filled.whole))

    next : IsFilledTo n g (i + 1) (slice_set now i (Some c))
    next = record {
      whole = size;
      there = λ k below k_low. elim (cases_eq k i) [
        | inl at ↦ ap (colour_at (slice_set now i (Some c))) at ∙ here ∙ sym is ∙ ap (colour_at g) (sym at)
        | inr off ↦ get_or-set_other now i k (Some c) None off ∙ filled.there k (omega arith) k_low
      ];
      empty = λ k past. get_or-set_other now i k (Some c) None (omega arith) ∙ filled.empty k (omega arith);
    }

    part : IsPart (slice_set now i (Some c)) g
    part k = elim (cases_lt k (i + 1)) [
      | inl before ↦ inl (next.there k before (omega arith))
      | inr after ↦ inr (next.empty k after)
    ]

-- all of it
pub filled_all : (n : ℕ) (g now : Colouring) (i : ℕ) → n * n ≤ i → length g ≡ n * n → IsFilledTo n g i now → now ≡ g
filled_all n g now i all whole filled =
    ext_get_or None now g (filled.whole ∙ sym whole)
    (λ k below. filled.there k (omega (arith, filled.whole)) (omega (arith, filled.whole)))

-- nothing of it on the empty board
pub filled_none : (n : ℕ) (g now : Colouring) → now ≡ replicate (n * n) None → IsFilledTo n g 0 now
filled_none n g now is = record {
  whole = ap length is ∙ length-replicate {A = Option Colour} (n * n) None;
  there = λ k below. absurd (omega arith);
  empty = λ k past. ap (λ (h : Colouring). colour_at h k) is ∙ elim (cases_lt k (n * n)) [
    | inl low ↦ get_or-replicate (n * n) k None None low
    | inr high ↦ get_or_past (replicate (n * n) None) k None
        (let size = length-replicate {A = Option Colour} (n * n) None in omega (arith, size))
  ];
}
