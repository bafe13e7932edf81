use Rattle.std.proofs.Common.{arith, ◌∙◌, ap, sym, ℕ}
use Rattle.go_board.specs.Packs.{colour_coded}
use Rattle.go_board.specs.Points.{number_of}
use Rattle.go_chains.specs.Boards.{BoardValue}
use Rattle.go_chains.proofs.rules.Quiet.{coded_back, moved_quiet, quiet_moved, quiet_on, vacant_code}
use Rattle.go_chains.proofs.board.Board.is_quiet.Goals as goal

pub returns-clause-quiet : goal.returns-clause-quiet
returns-clause-quiet g c =
    let n = c.args.self.now.lines in
    let cells = c.args.self.now.cells in
    let p = number_of n c.args.p in
    let own = c.code.result in
    let kept = c.size-size.ensures.kept in
    let lines = c.size-size.ensures.lines in
    let low = c.points_by_number.ensures.number n c.args.p c.requires.on in
    let vacant = vacant_code n cells kept p low c.requires.empty in
    let coded = ap colour_coded c.code.ensures.value ∙ coded_back c.args.colour in
    let held = ap (λ (b : BoardValue). b.cells) c.self.view_is in
    let point = c.from-point.ensures ∙ c.index.ensures.value ∙ ap (λ (k : ℕ). number_of k c.args.p) lines in (
      λ is. quiet_moved n cells kept c.args.colour own p low vacant coded
          (quiet_on c.size-size.result n c.from-point.result p own c.self.inside.cells.numbers cells lines held point
          (c.takes_nothing.ensures.quiet.0 is)) c.reaches_by_a_path.ensures,
      λ same. c.takes_nothing.ensures.quiet.1
          (quiet_on n c.size-size.result p c.from-point.result own cells c.self.inside.cells.numbers (sym lines)
          (sym held) (sym point)
          (moved_quiet n cells kept c.args.colour own p low vacant coded c.reaches_by_a_path.ensures
          c.liberty_by_a_path.ensures (omega (arith, c.code.ensures.range)) same)),
    )
