use Rattle.std.specs.Prelude.{is_some}
use Rattle.std.specs.List.{list_any}
use Rattle.std.proofs.Common.{◌≡◌, false, take}
use Rattle.go_board.proofs.grid.Grid.is_vacant.Given as goal

abbrev pub invariant-loop-number : goal.invariant-loop-number
invariant-loop-number l = list_any is_some (take l.number l.self.colours) ≡ false
