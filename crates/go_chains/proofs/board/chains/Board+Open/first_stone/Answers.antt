use Rattle.std.proofs.Common.{arith, ◌≡◌, ◌<◌, ◌≤◌, ◌*◌, ◌⊎◌, ◌∙◌, ℕ, inl, inr, true, false, ap, ap₂, subst, sym}
use Rattle.go_board.specs.Laws.{JoinedByPath}
use Rattle.go_board.specs.declared.size.TheConstants.{MAX_POINTS}
use Rattle.go_board.specs.Points.{number_of}
use Rattle.go_board.specs.Reaching.{joined}
use Rattle.go_chains.specs.Boards.{BoardValue, IsStoneOf, grid_of}
use Rattle.go_chains.specs.Cells.{label_of, next_of, size_of}
use Rattle.go_chains.specs.inner.Rings.{IsOnRing, steps}
use Rattle.go_chains.specs.inner.Marked.{has_label}
use Rattle.go_chains.specs.Sound.{IsKept}
use Rattle.go_board.specs.lemmas.PointSets.{first-is}
use Rattle.go_chains.proofs.answers.Queries.{lowest_is, points-kept, ring_in, size_fits, stone_answers}
use Rattle.go_chains.proofs.board.chains.Board+Open.first_stone.Goals as goal

pub returns-then-has_label-clause-first : goal.returns-then-has_label-clause-first
returns-then-has_label-clause-first c =
    let b = c.args.self.now in
    let n = b.lines in
    let p = number_of n c.args.p in
    let label = c.label_at-label.result in
    let kept = c.label_at-label.ensures.kept in
    let stones : c.get-stones.result ≡ size_of b.cells label = c.get-stones.ensures.value
    ∙ ap (λ (v : BoardValue). size_of v.cells label) c.self.view_is in
    let fits = size_fits n b.cells kept c.joined_by_a_path.ensures p label c.requires.stone
    c.label_at-label.ensures.label in
    let low : c.loop-number.number < n * n = omega (arith, c.loop-number-test.true, stones, fits) in
    let answers : (q : ℕ) → q < n * n → has_label b.cells label q ≡ joined n (grid_of b) p q = λ q inside.
    stone_answers n b.cells kept c.joined_by_a_path.ensures p q label c.requires.stone inside
    c.label_at-label.ensures.label in
    first-is n (joined n (grid_of b) p) c.loop-number.number low
    (sym (answers c.loop-number.number low) ∙ sym c.has_label.ensures ∙ c.if-has_label.true)
    (λ k less. sym (answers k (omega (arith, low, less))) ∙ c.loop-number.invariant k less)

pub lowest_on_ring-requires-clause-on : goal.lowest_on_ring-requires-clause-on
lowest_on_ring-requires-clause-on c i low =
    let b = c.args.self.now in
    let p = number_of b.lines c.args.p in
    let label = c.label_at-label.result in
    let first : c.from.result ≡ p = c.from.ensures ∙ c.index.ensures.value
    ∙ ap (λ (v : BoardValue). number_of v.lines c.args.p) c.self.view_is in
    let stones : c.get-stones.result ≡ size_of b.cells label = c.get-stones.ensures.value
    ∙ ap (λ (v : BoardValue). size_of v.cells label) c.self.view_is in
    subst (λ (v : BoardValue). steps (next_of v.cells) i c.from.result < MAX_POINTS) (sym c.self.view_is)
    (subst (λ k. steps (next_of b.cells) i k < MAX_POINTS) (sym first)
    (ring_in b.lines b.cells c.label_at-label.ensures.kept p label i c.requires.stone c.label_at-label.ensures.label
    (omega (arith, low, stones))))

-- the lowest point on the ring, as it was read
found : (b v : BoardValue) → v ≡ b → JoinedByPath → IsKept b.lines b.cells → (p label from stones r : ℕ) →
    IsStoneOf (grid_of b) p → label ≡ label_of b.cells p → from ≡ p
    → stones ≡ size_of b.cells label → (r ≡ from) ⊎ IsOnRing (next_of v.cells) stones from r →
    ((q : ℕ) → IsOnRing (next_of v.cells) stones from q → r ≤ q)
    → (r < b.lines * b.lines) × (joined b.lines (grid_of b) p r ≡ true)
    × ((k : ℕ) → k < r → joined b.lines (grid_of b) p k ≡ false)
found b v is by kept p label from stones r stone l_is first size on lowest =
    let alike : (q : ℕ) → IsOnRing (next_of v.cells) stones from q ≡ IsOnRing (next_of b.cells) (size_of b.cells label)
    p q = λ q.
    ap (λ (x : BoardValue). IsOnRing (next_of x.cells) stones from q) is
    ∙ ap₂ (λ m k. IsOnRing (next_of b.cells) m k q) size first in
    lowest_is b.lines b.cells kept by p label r stone l_is
    (elim on [ inl at ↦ inl (at ∙ first) | inr ring ↦ inr (subst (λ (T : Type 0). T) (alike r) ring) ])
    (λ q ring. lowest q (subst (λ (T : Type 0). T) (sym (alike q)) ring))

pub overflow_cast-result-2 : goal.overflow_cast-result-2
overflow_cast-result-2 c =
    let points = points-kept c.args.self.now.lines c.args.self.now.cells c.label_at-label.ensures.kept in
    let there = found c.args.self.now _ c.self.view_is c.joined_by_a_path.ensures c.label_at-label.ensures.kept
    (number_of c.args.self.now.lines c.args.p) c.label_at-label.result c.from.result c.get-stones.result
    c.lowest_on_ring.result c.requires.stone c.label_at-label.ensures.label
    (c.from.ensures ∙ c.index.ensures.value ∙ ap (λ (v : BoardValue). number_of v.lines c.args.p) c.self.view_is)
    (c.get-stones.ensures.value ∙ ap (λ (v : BoardValue). size_of v.cells c.label_at-label.result) c.self.view_is)
    c.lowest_on_ring.ensures.on c.lowest_on_ring.ensures.lowest in
    omega (arith, points, there.0)

pub returns-clause-first : goal.returns-clause-first
returns-clause-first c =
    let there = found c.args.self.now _ c.self.view_is c.joined_by_a_path.ensures c.label_at-label.ensures.kept
    (number_of c.args.self.now.lines c.args.p) c.label_at-label.result c.from.result c.get-stones.result
    c.lowest_on_ring.result c.requires.stone c.label_at-label.ensures.label
    (c.from.ensures ∙ c.index.ensures.value ∙ ap (λ (v : BoardValue). number_of v.lines c.args.p) c.self.view_is)
    (c.get-stones.ensures.value ∙ ap (λ (v : BoardValue). size_of v.cells c.label_at-label.result) c.self.view_is)
    c.lowest_on_ring.ensures.on c.lowest_on_ring.ensures.lowest in
    first-is c.args.self.now.lines (joined c.args.self.now.lines (grid_of c.args.self.now)
    (number_of c.args.self.now.lines c.args.p)) c.lowest_on_ring.result there.0 there.1 there.2

pub returns-clause-on : goal.returns-clause-on
returns-clause-on c =
    let there = found c.args.self.now _ c.self.view_is c.joined_by_a_path.ensures c.label_at-label.ensures.kept
    (number_of c.args.self.now.lines c.args.p) c.label_at-label.result c.from.result c.get-stones.result
    c.lowest_on_ring.result c.requires.stone c.label_at-label.ensures.label
    (c.from.ensures ∙ c.index.ensures.value ∙ ap (λ (v : BoardValue). number_of v.lines c.args.p) c.self.view_is)
    (c.get-stones.ensures.value ∙ ap (λ (v : BoardValue). size_of v.cells c.label_at-label.result) c.self.view_is)
    c.lowest_on_ring.ensures.on c.lowest_on_ring.ensures.lowest in
    there.0
