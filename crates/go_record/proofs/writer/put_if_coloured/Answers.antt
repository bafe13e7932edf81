use Rattle.std.proofs.Common.{◌≡◌, ◌∙◌, sym, true}
use Rattle.std.specs.Prelude.{Some}
use Rattle.go_board.specs.Points.{number_of}
use Rattle.go_board.specs.Reaching.{has_colour}
use Rattle.go_board.specs.lemmas.Writing.{writes_writes}
use Rattle.go_record.proofs.writer.put_if_coloured.Goals as goal

pub returns-then-is_of-clause-stone : goal.returns-then-is_of-clause-stone
returns-then-is_of-clause-stone g c =
    let s = c.args.game.now.standing in
    let held : has_colour s.start (number_of s.lines c.args.at) (Some c.args.colour) ≡ true =
    sym (rw c.start_at.ensures at c.is_of.ensures) ∙ c.if-is_of.true in
    rw held (writes_writes c.put.ensures (rw c.size.ensures.lines at c.put_point.ensures))
