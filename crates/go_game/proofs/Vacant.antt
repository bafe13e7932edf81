-- A board without stones.
use Rattle.std.specs.Prelude.{is_some}
use Rattle.std.specs.List.{list_any}
use Rattle.std.proofs.Common.{arith, ◌≡◌, ◌∙◌, ◌&&◌, ◌==◌, Bool, true, false, not, List, [], ◌∷◌, length, refl, sym, ap}
use Rattle.go_board.specs.declared.vertex.Move.{Move}
use Rattle.go_board.specs.Colours.{Colouring}

and_true : (b : Bool) → b ≡ (b && true)
and_true true = refl
and_true false = refl

-- what the test for an empty board comes to where no move stands
pub vacant_is : (none : Bool) (g : Colouring) (moves : List Move) → moves ≡ [] → none ≡ not (list_any is_some g) →
    none ≡ (not (list_any is_some g) && length moves == 0)
vacant_is none g moves no_move is =
    is ∙ and_true (not (list_any is_some g))
    ∙ ap (λ (ms : List Move). not (list_any is_some g) && length ms == 0) (sym no_move)

pub no_moves : (moves : List Move) → length moves ≡ 0 → moves ≡ []
no_moves [] e = refl
no_moves (m ∷ moves) e = absurd (omega arith)
