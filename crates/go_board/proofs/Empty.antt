-- On a board without stones each stone lives.
use Rattle.std.specs.Prelude.{is_some}
use Rattle.std.specs.List.{list_any}
use Rattle.std.proofs.Common.{◌≡◌, ◌&&◌, ◌∷◌, [], ℕ, zero, suc, Bool, true, false, not, true≢false, None, Some, refl, sym, ap}
use Rattle.go_board.specs.Colours.{Colouring, colour_at}
use Rattle.go_board.specs.Living.{AreAlive}
use Rattle.go_board.specs.Reaching.{is_same, reaches}

none_stands : (g : Colouring) → list_any is_some g ≡ false → (k : ℕ) → colour_at g k ≡ None
none_stands [] e k = refl
none_stands (None ∷ g) e zero = refl
none_stands (None ∷ g) e (suc k) = none_stands g e k
none_stands (Some c ∷ g) e k = absurd (true≢false e)

untrue : (b : Bool) → not b ≡ true → b ≡ false
untrue true e = absurd (true≢false (sym e))
untrue false e = refl

pub alive_without_stones : (n : ℕ) (g : Colouring) → not (list_any is_some g) ≡ true → AreAlive n g
alive_without_stones n g e k low =
    ap (λ o. not (is_same o None) && not (reaches n g k None)) (none_stands g (untrue (list_any is_some g) e) k)
