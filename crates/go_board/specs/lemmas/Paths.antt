-- Points are adjacent, and joined, both ways.
use Rattle.std.proofs.Common.{◌≡◌, ◌∙◌, ◌+◌, ◌==◌, ◌&&◌, ◌||◌, ℕ, List, [], ◌∷◌, refl, sym, ap, subst}
use Rattle.std.proofs.Math.Bool.{or_comm}
use Rattle.std.proofs.lemmas.Cmp.{nat_eq_equiv}
use Rattle.go_board.specs.declared.point.Point.{Point}
use Rattle.go_board.specs.Colours.{Colouring}
use Rattle.go_board.specs.Paths.{IsAdjacent, Joined, Leads}
use Rattle.go_board.specs.Points.{are_beside, is_next, point_at}

-- points share a side both ways
are_beside-flip : (p q : Point) → are_beside p q ≡ are_beside q p
are_beside-flip p q =
    ap (λ x. (x && is_next p.col q.col) || (p.col == q.col && is_next p.row q.row)) (nat_eq_equiv.symm p.row q.row)
    ∙ ap (λ x. (q.row == p.row && x) || (p.col == q.col && is_next p.row q.row))
    (or_comm (p.col + 1 == q.col) (q.col + 1 == p.col))
    ∙ ap (λ x. (q.row == p.row && is_next q.col p.col) || (x && is_next p.row q.row)) (nat_eq_equiv.symm p.col q.col)
    ∙ ap (λ x. (q.row == p.row && is_next q.col p.col) || (q.col == p.col && x))
    (or_comm (p.row + 1 == q.row) (q.row + 1 == p.row))

pub flip : (n p q : ℕ) → IsAdjacent n p q → IsAdjacent n q p
flip n p q near = (near.1, near.0, are_beside-flip (point_at n q) (point_at n p) ∙ near.2)

-- a path from p to q, after one from p back to where it began
back_onto : (n : ℕ) (g : Colouring) (p q start : ℕ) (path passed : List ℕ) → Leads n g p path q →
    Leads n g p passed start → Joined n g q start
back_onto n g p q start [] passed end trail = (passed, subst (λ k. Leads n g k passed start) end trail)
back_onto n g p q start (r ∷ path) passed step trail =
    back_onto n g r q start path (p ∷ passed) step.2 (flip n p r step.0, sym step.1, trail)

pub joined_back : (n : ℕ) (g : Colouring) (p q : ℕ) → Joined n g p q → Joined n g q p
joined_back n g p q joined = back_onto n g p q p joined.0 [] joined.1 refl
