use Rattle.std.proofs.Common.{arith, ◌≡◌, ◌∙◌, ℕ, ap, refl, rules}
use Rattle.std.specs.Fmt.{digits}
use Rattle.std.specs.Prelude.{ℤ, pos, negsuc, ◌≤ℤ◌}
use Rattle.std.proofs.lemmas.Int.{ints}
use Rattle.go_game.specs.Scores.{score_word, size_text}
use Rattle.go_game.proofs.score.score_text.Goals as goal

zero_word : size_text 0 ≡ score_word (pos 0)
unfolding size_text digits
zero_word = refl

even : (z : ℤ) → pos 0 ≤ℤ z → z ≤ℤ pos 0 → size_text 0 ≡ score_word z
even (pos n) low high = zero_word ∙ ap (λ (k : ℕ). score_word (pos k)) (let e : 0 ≡ n = omega (arith, ints) in e)
even (negsuc n) low high = absurd (omega (arith, ints))

pub returns : goal.returns
returns c =
    let low : pos 0 ≤ℤ c.args.margin = omega (arith, ints, c.if-margin-lt0.false) in
    let high : c.args.margin ≤ℤ pos 0 = omega (arith, ints, c.if-margin-gt0.false) in
    c.sized-2.ensures ∙ even c.args.margin low high

pub returns-then-margin-lt0 : goal.returns-then-margin-lt0
returns-then-margin-lt0 c = search rules
