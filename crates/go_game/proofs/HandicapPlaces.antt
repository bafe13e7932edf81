-- The places of handicap stones are on the board.
use Rattle.std.proofs.Common.{arith, ◌≡◌, ◌<◌, ◌≤◌, ◌&&◌, ◌||◌, ◌==◌, ◌%◌, if◌then◌else◌, ap, Bool, true, false, inl, inr, ℕ, List, [], ◌∷◌, ◌++◌, All, nat_lt, take}
use Rattle.std.specs.Prelude.{nat_le}
use Rattle.std.proofs.lemmas.Bool.{cases_lt, lt-ltb}
use Rattle.std.proofs.lemmas.Bool.Decides.{nat_tests}
use Rattle.std.proofs.lemmas.List.Elements.{All-append, All-cons, All-nil, All-take}
use Rattle.go_board.specs.declared.point.Point.{Point}
use Rattle.go_board.specs.Points.{IsOn}
use Rattle.go_game.specs.Handicaps.{centre, corners, ends, far, greatest, handicap_points, middle, near, crossing, sides, where_wanted}

near_low : (n : ℕ) → 6 < n → near n < n
near_low n big = grind (arith, nat_tests)

far_low : (n : ℕ) → 6 < n → far n < n
far_low n big = omega arith

middle_low : (n : ℕ) → 6 < n → middle n < n
middle_low n big = omega arith

module _ (n : ℕ) (big : 6 < n) where
  wanted_on : (b : Bool) (points : List Point) → All (IsOn n) points → All (IsOn n) (where_wanted b points)
  wanted_on true points on = on
  wanted_on false points on = All-nil (IsOn n)

  one_more : (p : Point) (points : List Point) → IsOn n p → All (IsOn n) points → All (IsOn n) (p ∷ points)
  one_more p points here on = All-cons (IsOn n) p points here on

  two_on : (p q : Point) → IsOn n p → IsOn n q → All (IsOn n) (p ∷ q ∷ [])
  two_on p q first second = one_more p (q ∷ []) first (one_more q [] second (All-nil (IsOn n)))

  corners_on : All (IsOn n) (corners n)
  corners_on =
      let a = near_low n big in
      let b = far_low n big in
      All-append (IsOn n) (crossing (near n) (near n) ∷ crossing (far n) (far n) ∷ [])
      (crossing (near n) (far n) ∷ crossing (far n) (near n) ∷ [])
      (two_on (crossing (near n) (near n)) (crossing (far n) (far n)) (a, a) (b, b))
      (two_on (crossing (near n) (far n)) (crossing (far n) (near n)) (a, b) (b, a))

  pub handicap_on : (number : ℕ) → All (IsOn n) (handicap_points n number)
  unfolding handicap_points
  handicap_on number =
      let a = near_low n big in
      let b = far_low n big in
      let m = middle_low n big in
      let first = take number (corners n) in
      let second = where_wanted (nat_le 6 number) (sides n) in
      let third = where_wanted (nat_le 8 number) (ends n) in
      All-append (IsOn n) ((first ++ second) ++ third) (where_wanted (nat_lt 4 number && number % 2 == 1) (centre n))
      (All-append (IsOn n) (first ++ second) third
      (All-append (IsOn n) first second (All-take (IsOn n) number (corners n) corners_on)
      (wanted_on (nat_le 6 number) (sides n)
      (two_on (crossing (near n) (middle n)) (crossing (far n) (middle n)) (a, m) (b, m))))
      (wanted_on (nat_le 8 number) (ends n)
      (two_on (crossing (middle n) (near n)) (crossing (middle n) (far n)) (m, a) (m, b))))
      (wanted_on (nat_lt 4 number && number % 2 == 1) (centre n)
      (one_more (crossing (middle n) (middle n)) [] (m, m) (All-nil (IsOn n))))

-- a board with places for two stones has more than six lines
pub big_enough : (n number : ℕ) → 2 ≤ number → number ≤ greatest n → 6 < n
big_enough n number some few = elim (cases_lt n 7) [
  | inl small ↦ let none : greatest n ≡ 0 =
      ap (λ b. if b then 0 else (if n == 7 || n % 2 == 0 then 4 else 9)) (lt-ltb n 7 small) in
      absurd (omega (arith, some, few, none))
  | inr big ↦ omega arith
]
