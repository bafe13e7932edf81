-- The points of values, listed value by value.
use Rattle.std.proofs.Common.{◌≡◌, ◌∙◌, ◌≤◌, ℕ, List, Some, sym, ap, drop, length}
use Rattle.std.specs.Borrow.{Bor}
use Rattle.std.proofs.lemmas.List.{append-nil, drop_all}
use Rattle.go_board.specs.declared.point.Point.{Point}
use Rattle.go_sgf.specs.BoardValues.{both, points_by_values}
use Rattle.go_sgf.specs.Record.{values_of}

-- the points of the values before a place, and those of the values from it on, are those of all
abbrev pub ListedSoFar : ℕ → List (Bor (List ℕ)) → ℕ → List Point → Type 0
ListedSoFar n values at ps = both (Some ps) (points_by_values n (values_of (drop at values))) ≡ points_by_values n
    (values_of values)

-- after the last value
pub all_listed : (n : ℕ) (values : List (Bor (List ℕ))) (at : ℕ) (ps : List Point) → length values ≤ at →
    ListedSoFar n values at ps →
    Some ps ≡ points_by_values n (values_of values)
all_listed n values at ps high far =
    ap Some (sym (append-nil ps))
    ∙ sym (ap (λ (vs : List (Bor (List ℕ))). both (Some ps) (points_by_values n (values_of vs)))
    (drop_all at values high)) ∙ far
