use Rattle.std.specs.Prelude.{◌↔◌}
use Rattle.std.proofs.Common.{arith, ◌≡◌, ◌<◌, ◌∙◌, ℕ, ap, subst, sym}
use Rattle.go_board.specs.PointSets.{HasPoint}
use Rattle.go_board.specs.Points.{number_of}
use Rattle.go_board.specs.Reaching.{joined}
use Rattle.go_board.specs.declared.size.TheConstants.{MAX_POINTS}
use Rattle.go_board.specs.lemmas.PointSets.{left-all}
use Rattle.go_chains.specs.Boards.{BoardValue, grid_of}
use Rattle.go_chains.specs.Cells.{next_of, size_of}
use Rattle.go_chains.specs.inner.Rings.{IsOnRing, steps}
use Rattle.go_chains.proofs.answers.Queries.{ring_answers, ring_in}
use Rattle.go_chains.proofs.board.chains.Board+Open.fill_stones.Goals as goal

pub put_ring-requires-clause-on : goal.put_ring-requires-clause-on
put_ring-requires-clause-on c i low =
    let b = c.args.self.now in
    let p = number_of b.lines c.args.p in
    let label = c.label_at-label.result in
    let first : c.from-first.result ≡ p = c.from-first.ensures ∙ c.index.ensures.value
    ∙ ap (λ (v : BoardValue). number_of v.lines c.args.p) c.self.view_is in
    let stones : c.get-stones.result ≡ size_of b.cells label = c.get-stones.ensures.value
    ∙ ap (λ (v : BoardValue). size_of v.cells label) c.self.view_is in
    subst (λ (v : BoardValue). steps (next_of v.cells) i c.from-first.result < MAX_POINTS) (sym c.self.view_is)
    (subst (λ k. steps (next_of b.cells) i k < MAX_POINTS) (sym first)
    (ring_in b.lines b.cells c.label_at-label.ensures.kept p label i c.requires.stone c.label_at-label.ensures.label
    (omega (arith, low, stones))))

pub returns : goal.returns
returns c =
    let b = c.args.self.now in
    let p = number_of b.lines c.args.p in
    let label = c.label_at-label.result in
    let set = c.put_ring.new.set in
    let first : c.from-first.result ≡ p = c.from-first.ensures ∙ c.index.ensures.value
    ∙ ap (λ (v : BoardValue). number_of v.lines c.args.p) c.self.view_is in
    let stones : c.get-stones.result ≡ size_of b.cells label = c.get-stones.ensures.value
    ∙ ap (λ (v : BoardValue). size_of v.cells label) c.self.view_is in
    let marked : (q : ℕ) → HasPoint set q ↔ IsOnRing (next_of b.cells) (size_of b.cells label) p q = λ q.
    subst (λ k. HasPoint set q ↔ IsOnRing (next_of b.cells) (size_of b.cells label) k q) first
    (subst (λ m. HasPoint set q ↔ IsOnRing (next_of b.cells) m c.from-first.result q) stones
    (subst (λ (v : BoardValue). HasPoint set q ↔ IsOnRing (next_of v.cells) c.get-stones.result c.from-first.result q)
    c.self.view_is (c.put_ring.ensures q))) in
    left-all b.lines set (joined b.lines (grid_of b) p)
    (λ q low. ring_answers b.lines b.cells c.label_at-label.ensures.kept c.joined_by_a_path.ensures p q label set
    c.requires.stone c.label_at-label.ensures.label (marked q))
