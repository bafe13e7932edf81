use Rattle.std.proofs.Common.{rules}
use Rattle.std.specs.Int.{bit_at, trailing_zeros}
use Rattle.std.specs.Prelude.{◌↔◌, ◌∷◌, []}
use Rattle.std.proofs.Common.{arith, ◌≡◌, ◌+◌, ◌*◌, ◌<◌, ◌≤◌, ◌∙◌, ℕ, List, ap, sym, subst, w64}
use Rattle.go_board.specs.Points.{point_at}
use Rattle.go_board.specs.PointSets.{HasPoint, points_from}
use Rattle.go_board.specs.lemmas.PointSets.{bit_in, lowest-next, lowest-past, none-left}
use Rattle.go_board.proofs.point_set.PointSet.next.Goals as goal

pub returns-then-number-points-clause-some : goal.returns-then-number-points-clause-some
returns-then-number-points-clause-some c =
    let n = c.args.size in
    let words = c.self.inside.words in
    let word = c.loop-word.word in
    let read = c.bits_from-bits in
    let all : c.from-points.result ≡ n * n = c.from-points.ensures ∙ c.points.ensures.value in
    let bits : (i : ℕ) → i < 64 → (bit_at read.result i ≡ 1)
    ↔ ((c.from-first.result ≤ 64 * word + i) × HasPoint words (64 * word + i)) =
    λ i low. let b = read.ensures i low in (
      λ set. ((b.0 set).0, bit_in words word i low ∙ (b.0 set).1),
      λ both.
          b.1 (both.0, sym (bit_in words word i low) ∙ both.1),
    ) in
    let next = ap (points_from n words) (sym c.from-first.ensures)
    ∙ lowest-next n words c.from-first.result word read.result read.type_inv bits c.loop-word.invariant
    (omega (arith, c.if-bits-ne0.true)) (omega (arith, all, c.if-number-points.true)) in
    let number : ℕ = 64 * word + trailing_zeros w64 read.result in
    subst (λ (ws : List ℕ). points_from n ws c.args.first ≡ point_at n number ∷ points_from n ws (number + 1))
    c.self.view_is next

pub returns-else-number-points-clause-none : goal.returns-else-number-points-clause-none
returns-else-number-points-clause-none c =
    let n = c.args.size in
    let words = c.self.inside.words in
    let word = c.loop-word.word in
    let read = c.bits_from-bits in
    let all : c.from-points.result ≡ n * n = c.from-points.ensures ∙ c.points.ensures.value in
    let bits : (i : ℕ) → i < 64 → (bit_at read.result i ≡ 1)
    ↔ ((c.from-first.result ≤ 64 * word + i) × HasPoint words (64 * word + i)) =
    λ i low. let b = read.ensures i low in (
      λ set. ((b.0 set).0, bit_in words word i low ∙ (b.0 set).1),
      λ both.
          b.1 (both.0, sym (bit_in words word i low) ∙ both.1),
    ) in
    let none = ap (points_from n words) (sym c.from-first.ensures)
    ∙ lowest-past n words c.from-first.result word read.result read.type_inv bits c.loop-word.invariant
    (omega (arith, c.if-bits-ne0.true)) (omega (arith, all, c.if-number-points.false)) in
    subst (λ (ws : List ℕ). points_from n ws c.args.first ≡ []) c.self.view_is none

pub returns-clause-none : goal.returns-clause-none
returns-clause-none c =
    let n = c.args.size in
    let words = c.self.inside.words in
    let none = ap (points_from n words) (sym c.from-first.ensures)
    ∙ none-left n words c.from-first.result
    (λ q low high. c.loop-word.invariant q low
    (omega (arith, high, c.words_of-word-end.ensures.value, c.loop-word-test.false))) in
    subst (λ (ws : List ℕ). points_from n ws c.args.first ≡ []) c.self.view_is none

pub loop-word-init : goal.loop-word-init
loop-word-init c = search rules
