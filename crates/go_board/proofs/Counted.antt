-- Areas and dead stones, point by point.
use Rattle.std.proofs.Common.{arith, ◌≡◌, ◌<◌, ◌≤◌, ◌+◌, ◌*◌, ◌∙◌, ◌&&◌, ◌||◌, Bool, false, not, cond, inl, inr, ℕ, List, Option, Some, None, count_by, get_or, refl, sym, ap, ap₂}
use Rattle.std.specs.List.{range_with_len}
use Rattle.std.proofs.lemmas.Bool.{cases_Bool}
use Rattle.go_board.specs.declared.colour.Colour.{Colour}
use Rattle.go_board.specs.Colours.{Colouring, colour_at, other}
use Rattle.go_board.specs.Reaching.{area, is_area, is_same, reaches}
use Rattle.go_board.specs.inner.Areas.{is_area_marked}
use Rattle.go_board.specs.inner.Flood.{AreReaching}
use Rattle.go_board.proofs.Clearing.{count_more, same_test}

-- the marks of a colour tell what reaches, at a point of that colour
mark_is : (n : ℕ) (g : Colouring) (from to : Option Colour) (i : ℕ) (marks : List Bool) → i < n * n →
    AreReaching n g from to marks → colour_at g i ≡ from → get_or marks i false ≡ reaches n g i to
mark_is n g from to i marks low all same =
    same_test (get_or marks i false) (reaches n g i to) (λ m. ((all i).0 m).2) (λ r. (all i).1 (low, same, r))

stone_area : (s c : Colour) (own theirs : Bool) →
    is_same (Some s) (Some c) ≡ (is_same (Some s) (Some c) || ((false && own) && not theirs))
stone_area s c own theirs = elim (cases_Bool (is_same (Some s) (Some c))) [ inl t ↦ rw t refl | inr t ↦ rw t refl ]

area_at : (n : ℕ) (g : Colouring) (c : Colour) (i : ℕ) (own theirs : List Bool) → i < n * n →
    AreReaching n g None (Some c) own → AreReaching n g None (Some (other c)) theirs
    → (o : Option Colour) → colour_at g i ≡ o → is_area_marked o c (get_or own i false) (get_or theirs i false)
    ≡ (is_same o (Some c) || ((is_same o None && reaches n g i (Some c)) && not (reaches n g i (Some (other c)))))
area_at n g c i own theirs low marks other_marks None is =
    ap₂ (λ a b. a && not b) (mark_is n g None (Some c) i own low marks is)
    (mark_is n g None (Some (other c)) i theirs low other_marks is)
area_at n g c i own theirs low marks other_marks (Some s) is =
    stone_area s c (reaches n g i (Some c)) (reaches n g i (Some (other c)))

-- a point counts exactly where the marks say so
pub area_is : (n : ℕ) (g : Colouring) (c : Colour) (i : ℕ) (own theirs : List Bool) → i < n * n →
    AreReaching n g None (Some c) own → AreReaching n g None (Some (other c)) theirs
    → is_area_marked (colour_at g i) c (get_or own i false) (get_or theirs i false) ≡ is_area n g c i
area_is n g c i own theirs low marks other_marks = area_at n g c i own theirs low marks other_marks (colour_at g i) refl

-- counting one more point
pub area_more : (n : ℕ) (g : Colouring) (c : Colour) (i count count' : ℕ) (counts : Bool) →
    count ≡ count_by (is_area n g c) (range_with_len 0 i)
    → counts ≡ is_area n g c i → count' ≡ count + cond counts 1 0 →
    count' ≡ count_by (is_area n g c) (range_with_len 0 (i + 1))
area_more n g c i count count' counts before is now =
    now ∙ ap₂ (λ m b. let k : ℕ = m + cond b 1 0 in k) before is ∙ sym (count_more (is_area n g c) i)

pub area_counted : (n : ℕ) (g : Colouring) (c : Colour) (i count : ℕ) → n * n ≤ i → i ≤ n * n →
    count ≡ count_by (is_area n g c) (range_with_len 0 i) → count ≡ area n g c
unfolding area
area_counted n g c i count all most is = is
    ∙ ap (λ k. count_by (is_area n g c) (range_with_len 0 k)) (let same : i ≡ n * n = omega arith in same)
