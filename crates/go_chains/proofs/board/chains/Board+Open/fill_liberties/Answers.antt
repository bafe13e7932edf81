use Rattle.std.specs.Prelude.{◌↔◌}
use Rattle.std.proofs.Common.{◌≡◌, ◌*◌, ◌<◌, ◌⊎◌, ℕ, ap, arith, subst}
use Rattle.go_board.specs.PointSets.{HasPoint}
use Rattle.go_board.specs.Points.{number_of}
use Rattle.go_board.specs.Reaching.{is_liberty_of}
use Rattle.go_board.specs.lemmas.PointSets.{left-all}
use Rattle.go_chains.specs.Boards.{BoardValue, grid_of}
use Rattle.go_chains.specs.Cells.{lib_of}
use Rattle.go_chains.proofs.answers.Queries.{free_answers}
use Rattle.go_chains.proofs.board.chains.Board+Open.fill_liberties.Goals as goal

pub returns : goal.returns
returns c =
    let b = c.args.self.now in
    let p = number_of b.lines c.args.p in
    let label = c.label_at-label.result in
    let old = c.args.set.now in
    let set = c.put_liberties.new.set in
    let all : c.size.result * c.size.result ≡ b.lines * b.lines = ap (λ (k : ℕ). k * k) c.size.ensures.lines in
    let put : (q : ℕ) → q < b.lines * b.lines → HasPoint set q ↔ (HasPoint old q ⊎ (lib_of b.cells label q ≡ 1)) =
    λ q low.
    subst (λ (v : BoardValue). HasPoint set q ↔ (HasPoint old q ⊎ (lib_of v.cells label q ≡ 1))) c.self.view_is
    (c.put_liberties.ensures.put q (omega (arith, low, all))) in
    left-all b.lines set (is_liberty_of b.lines (grid_of b) p)
    (free_answers b.lines b.cells c.label_at-label.ensures.kept c.liberty_by_a_path.ensures p label old set
    c.requires.stone c.label_at-label.ensures.label c.requires.none put)
