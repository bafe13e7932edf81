-- Points and their numbers in point order.
use Rattle.std.proofs.Common.{arith, ◌≡◌, ◌<◌, ◌+◌, ◌*◌, ◌/◌, ◌%◌, ℕ, ap₂}
use Rattle.std.proofs.lemmas.Grind.{common_steps}
use Rattle.std.proofs.lemmas.Nat.{rows}
use Rattle.go_board.specs.declared.point.Point.{Point}
use Rattle.go_board.specs.Points.{IsOn, number_of, point_at}

-- a point of the board has the column and row of its number
pub col_back : (n row col : ℕ) → col < n → (row * n + col) % n ≡ col
col_back n row col low = grind (arith, common_steps, rows)

pub row_back : (n row col : ℕ) → col < n → (row * n + col) / n ≡ row
row_back n row col low = grind (arith, common_steps, rows)

pub point_at-number_of : (n : ℕ) (p : Point) → IsOn n p → point_at n (number_of n p) ≡ p
point_at-number_of n p on = ap₂ (λ c r. let q : Point = record { col = c; row = r } in q) (col_back n p.row p.col on.0)
    (row_back n p.row p.col on.0)

pub number_of-lt : (n : ℕ) (p : Point) → IsOn n p → number_of n p < n * n
number_of-lt n p on = grind (arith, common_steps, rows)

pub number_of-point_at : (n k : ℕ) → k < n * n → number_of n (point_at n k) ≡ k
number_of-point_at n k low = grind (arith, common_steps, rows)

pub IsOn-point_at : (n k : ℕ) → k < n * n → IsOn n (point_at n k)
IsOn-point_at n k low = (grind (arith, common_steps, rows), grind (arith, common_steps, rows))
