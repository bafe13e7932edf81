-- A game on an empty board is vacant.
use Rattle.std.proofs.Common.{◌≡◌, ◌∙◌, ◌*◌, ◌&&◌, ℕ, ℤ, true, false, not, suc, zero, refl, ap}
use Rattle.std.specs.List.{list_any}
use Rattle.std.specs.Prelude.{Option, None, is_some, replicate}
use Rattle.go_board.specs.declared.colour.Colour.{Colour}
use Rattle.go_game.specs.declared.superko.Superko.{Superko}
use Rattle.go_game.specs.Standings.{Standing, empty_start, is_vacant_standing}

none_stand : (n : ℕ) → list_any is_some (replicate {A = Option Colour} n None) ≡ false
none_stand zero = refl
none_stand (suc n) = none_stand n

pub empty_is_vacant : (s : Standing) (n : ℕ) (komi : ℤ) (rule : Superko) → s ≡ empty_start n komi rule →
    is_vacant_standing s ≡ true
empty_is_vacant s n komi rule e = ap is_vacant_standing e ∙ ap (λ b. not b && true) (none_stand (n * n))
