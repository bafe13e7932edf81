-- Tests that compute, and the facts that they decide.
use Rattle.std.proofs.Common.{arith, ◌≡◌, ◌<◌, ◌+◌, ◌*◌, ◌∙◌, Bool, true, true≢false, ℕ, Option, Some, None, Contains, get_or, length, refl, sym, ap}
use Rattle.std.specs.List.{list_any}
use Rattle.std.proofs.lemmas.List.Folds.{Any-from_list_any, list_any_at}
use Rattle.std.proofs.lemmas.List.FromFn.{get_or-range_with_len, length-range_with_len}
use Rattle.go_board.specs.declared.colour.Colour.{Colour}
use Rattle.go_board.specs.declared.colour.Colour.TheVariants.{Black, White}
use Rattle.go_board.specs.Reaching.{is_same, points}

-- the test for equal colours
pub same_itself : (a : Option Colour) → is_same a a ≡ true
same_itself None = refl
same_itself (Some Black) = refl
same_itself (Some White) = refl

pub equal_from_same : (a b : Option Colour) → is_same a b ≡ true → a ≡ b
equal_from_same None None e = refl
equal_from_same None (Some b) e = absurd (true≢false (sym e))
equal_from_same (Some a) None e = absurd (true≢false (sym e))
equal_from_same (Some Black) (Some Black) e = refl
equal_from_same (Some White) (Some White) e = refl
equal_from_same (Some Black) (Some White) e = absurd (true≢false (sym e))
equal_from_same (Some White) (Some Black) e = absurd (true≢false (sym e))

pub same_from_equal : (a b : Option Colour) → a ≡ b → is_same a b ≡ true
same_from_equal a b e = rw e (same_itself b)

-- the points of a board are the numbers below their count
pub point_low : (n q : ℕ) → Contains (points n) q → q < n * n
point_low n q h =
    let within : h.0 < n * n = let w : h.0 < length (points n) = h.1 in rw (length-range_with_len 0 (n * n)) at w in
    let at : 0 + h.0 ≡ q = sym (get_or-range_with_len 0 (n * n) h.0 q within) ∙ h.2 in
    omega arith

pub some_point : (n : ℕ) (test : ℕ → Bool) → list_any test (points n) ≡ true → (q : ℕ) × (q < n * n) × (test q ≡ true)
some_point n test e =
    let h = Any-from_list_any test (points n) e in
    (h.1, point_low n h.1 (h.0, h.2, h.3), h.4)

pub at_point : (n : ℕ) (test : ℕ → Bool) (q : ℕ) → q < n * n → test q ≡ true → list_any test (points n) ≡ true
at_point n test q low e =
    let is : get_or (points n) q 0 ≡ q = get_or-range_with_len 0 (n * n) q 0 low
    ∙ (let z : 0 + q ≡ q = omega arith in z) in
    list_any_at test (points n) q 0 (rw (length-range_with_len 0 (n * n)) low) (ap test is ∙ e)
