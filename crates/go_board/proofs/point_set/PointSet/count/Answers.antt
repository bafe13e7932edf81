use Rattle.std.proofs.Common.{rules, arith, ◌≡◌, ◌+◌, ◌*◌, ◌/◌, ◌∙◌, refl, ap, subst, ℕ, List, count_by}
use Rattle.std.proofs.lemmas.Nat.Bits.{bit_at_ones}
use Rattle.std.specs.List.{range_with_len}
use Rattle.go_board.specs.PointSets.{has_point}
use Rattle.go_board.specs.inner.PointCounts.{count_in_word, is_counted}
use Rattle.go_board.proofs.PointCounts.{words_counted, words_more}
use Rattle.go_board.proofs.point_set.PointSet.count.Goals as goal

pub loop-word-preserved : goal.loop-word-preserved
loop-word-preserved c = record {
  counted = words_more c.self.inside.words c.from-points.result c.loop-word.word c.loop-word.count
      c.count_in-count.result c.loop-word.invariant.counted
      (c.count_in-count.ensures.counted c.self.inside.words refl);
  few = omega (arith, c.loop-word.invariant.few, c.count_in-count.ensures.few);
}

pub count_in-count-requires-clause-inside : goal.count_in-count-requires-clause-inside
count_in-count-requires-clause-inside c i low within = bit_at_ones 64 i low

pub returns : goal.returns
returns c test same =
    let words = c.self.inside.words in
    let n = c.args.size in
    let full = c.loop-word.word in
    let points = c.from-points.result in
    let last = c.count_in in
    let all : points ≡ n * n = c.from-points.ensures ∙ c.points.ensures.value in
    let here : points / 64 ≡ full = omega (arith, c.loop-word-test.false, c.loop-word.auto.word-end) in
    let both : c.loop-word.count + last.result ≡ count_by (is_counted words points)
    (range_with_len 0 (64 * (full + 1))) =
    words_more words points full c.loop-word.count last.result c.loop-word.invariant.counted
    (last.ensures.counted words refl ∙ ap (count_in_word words points) here) in
    let counted = subst (λ (k : ℕ).
    c.loop-word.count + last.result ≡ count_by (is_counted words k) (range_with_len 0 (64 * (full + 1)))) all
    both in
    words_counted n (full + 1) words (c.loop-word.count + last.result) test (omega (arith, all, here)) counted
    (λ q low. ap (λ (ws : List ℕ). has_point ws q) c.self.view_is ∙ same q low)

pub count_in-requires-clause-outside : goal.count_in-requires-clause-outside
count_in-requires-clause-outside c = search rules
