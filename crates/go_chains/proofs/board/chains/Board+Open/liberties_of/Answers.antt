use Rattle.std.specs.Prelude.{◌↔◌}
use Rattle.std.proofs.Common.{◌≡◌, ◌*◌, ◌<◌, ◌⊎◌, ℕ, ap, arith, filter, length, subst}
use Rattle.go_board.specs.PointSets.{HasPoint}
use Rattle.go_board.specs.Points.{number_of}
use Rattle.go_board.specs.Reaching.{is_liberty_of, points}
use Rattle.go_chains.specs.Boards.{BoardValue, grid_of}
use Rattle.go_chains.specs.Cells.{lib_of}
use Rattle.go_chains.proofs.answers.Queries.{free_answers}
use Rattle.go_chains.proofs.board.chains.Board+Open.liberties_of.Goals as goal

pub returns : goal.returns
returns c =
    let b = c.args.self.now in
    let p = number_of b.lines c.args.p in
    let label = c.label_at-label.result in
    let old = c.new-free.result in
    let set = c.put_liberties.new.set in
    let test = is_liberty_of b.lines (grid_of b) p in
    let lines = c.size-size.ensures.lines in
    let all : c.size-size.result * c.size-size.result ≡ b.lines * b.lines = ap (λ (k : ℕ). k * k) lines in
    let put : (q : ℕ) → q < b.lines * b.lines → HasPoint set q ↔ (HasPoint old q ⊎ (lib_of b.cells label q ≡ 1)) =
    λ q low.
    subst (λ (v : BoardValue). HasPoint set q ↔ (HasPoint old q ⊎ (lib_of v.cells label q ≡ 1))) c.self.view_is
    (c.put_liberties.ensures.put q (omega (arith, low, all))) in
    let same = free_answers b.lines b.cells c.label_at-label.ensures.kept c.liberty_by_a_path.ensures p label old set
    c.requires.stone c.label_at-label.ensures.label c.new-free.ensures put in
    subst (λ (k : ℕ). c.count.result ≡ length (filter test (points k))) lines
    (c.count.ensures test (λ q low. same q (omega (arith, low, all))))
