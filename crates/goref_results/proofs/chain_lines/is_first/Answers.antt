use Rattle.std.proofs.Common.{◌≡◌, ◌∙◌, not, true, refl, sym, ap, Option, None, Some}
use Rattle.std.specs.Prelude.{is_some}
use Rattle.go_board.specs.declared.colour.Colour.{Colour}
use Rattle.go_board.specs.Colours.{colour_at}
use Rattle.go_board.specs.Points.{number_of}
use Rattle.go_board.specs.Reaching.{is_same}
use Rattle.go_game.specs.Standings.{board_of}
use Rattle.goref_results.proofs.SeenChains.{first_unseen}
use Rattle.goref_results.proofs.chain_lines.is_first.Goals as goal

is_stone : (o : Option Colour) → is_some o ≡ true → not (is_same o None) ≡ true
is_stone None e = e
is_stone (Some c) e = refl

pub returns-then-is_some : goal.returns-then-is_some
returns-then-is_some g c =
    let s = c.args.game.now.standing in
    let k = number_of s.lines c.args.at in
    let stone = is_stone (colour_at (board_of s) k)
    (ap is_some (sym c.colour_at.ensures) ∙ sym c.is_some.ensures ∙ c.if-is_some.true) in
    let placed = rw (c.row_and_column-row.ensures.row, c.row_and_column-row.ensures.col) at c.has_place.ensures in
    let are = c.requires.seen c.args.at c.requires.on in
    first_unseen s.lines (board_of s) k c.has_place.result
    (c.points_by_number.ensures.number s.lines c.args.at c.requires.on) stone
    (λ seen. are.0 (placed.0 seen), λ before. placed.1 (are.1 before))
