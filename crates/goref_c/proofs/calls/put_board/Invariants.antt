use Rattle.std.proofs.Common.{◌≡◌, length, map, take}
use Rattle.std.specs.List.{range_with_len}
use Rattle.go_board.specs.Colours.{colour_at}
use Rattle.go_board.specs.Packs.{code_of}
use Rattle.go_game.specs.Standings.{board_of}
use Rattle.goref_c.proofs.calls.put_board.Given as goal

abbrev pub invariant-loop-number : goal.invariant-loop-number
invariant-loop-number l =
    (length l.colours ≡ 625)
    × (take l.number l.colours
    ≡ map (λ p. code_of (colour_at (board_of l.fn.game.standing) p)) (range_with_len 0 l.number))
