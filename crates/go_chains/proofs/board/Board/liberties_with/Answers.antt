use Rattle.std.proofs.Common.{arith, ◌≡◌, ◌≢◌, ◌∙◌, ap, subst, sym, ℕ, IsTrue, ◌<◌, ◌*◌, ◌↔◌, slice_set, eqb-true, eq-eqb, length, filter}
use Rattle.std.specs.Prelude.{Some}
use Rattle.go_board.specs.Packs.{colour_coded}
use Rattle.go_board.specs.Points.{number_of}
use Rattle.go_board.specs.Reaching.{is_liberty_of, points}
use Rattle.go_chains.specs.Boards.{BoardValue, grid_of}
use Rattle.go_chains.specs.inner.Quiet.{IsLent}
use Rattle.go_board.specs.PointSets.{HasPoint, bit_of, has_point}
use Rattle.go_chains.proofs.answers.Queries.{same_answer}
use Rattle.go_chains.proofs.rules.Quiet.{coded_back, lent_is, lent_on, vacant_code}
use Rattle.go_chains.proofs.board.Board.liberties_with.Goals as goal

pub returns-clause-liberties : goal.returns-clause-liberties
returns-clause-liberties g c =
    let n = c.args.self.now.lines in
    let cells = c.args.self.now.cells in
    let p = number_of n c.args.p in
    let kept = c.size-size.ensures.kept in
    let low = c.points_by_number.ensures.number n c.args.p c.requires.on in
    let lines = c.size-size.ensures.lines in
    let point = c.from-point.ensures ∙ c.index.ensures.value ∙ ap (λ (k : ℕ). number_of k c.args.p) lines in
    let own = c.code.result in
    let test = is_liberty_of n (slice_set (grid_of c.args.self.now) p (Some c.args.colour)) p in
    let set = c.put_lent.new.set in
    let told : (q : ℕ) → q < n * n → HasPoint set q ↔ ((q ≢ p) × IsLent n cells p own q) =
    λ q q_low. lent_on c.size-size.result n c.from-point.result p own q c.self.inside.cells.numbers cells lines
    (ap (λ (b : BoardValue). b.cells) c.self.view_is) point (bit_of set q)
    (c.put_lent.ensures.lent q (subst (λ (k : ℕ). q < k * k) (sym lines) q_low)) in
    let law : (q : ℕ) → q < n * n → ((q ≢ p) × IsLent n cells p own q) ↔ IsTrue (test q) = λ q q_low.
    lent_is n cells kept c.args.colour own p low (vacant_code n cells kept p low c.requires.empty)
    (ap colour_coded c.code.ensures.value ∙ coded_back c.args.colour) c.liberty_by_a_path.ensures
    (omega (arith, c.code.ensures.range)) q q_low in
    let same : (q : ℕ) → q < n * n → has_point set q ≡ test q = λ q q_low. same_answer (has_point set q) (test q)
    (λ e. (law q q_low).0 ((told q q_low).0 (eqb-true (bit_of set q) 1 e)))
    (λ t. eq-eqb (bit_of set q) 1 ((told q q_low).1 ((law q q_low).1 t))) in
    let count = c.count.ensures test (λ q q_low. same q (subst (λ (k : ℕ). q < k * k) lines q_low)) in
    subst (λ (k : ℕ). c.count.result ≡ length (filter test (points k))) lines count
