use Rattle.std.proofs.Common.{arith, ◌≤◌, ◌/◌, ◌%◌, ◌∙◌, ◌++◌, List, ℕ, ap, append_assoc, decimal, length, length-append}
use Rattle.std.proofs.lemmas.Fmt.{length-decimal-le}
use Rattle.go_game.specs.Scores.{decimals_of, size_text}
use Rattle.go_game.proofs.score.sized.Goals as goal

pub push_decimals-requires-clause-room : goal.push_decimals-requires-clause-room
push_decimals-requires-clause-room c =
    let points = c.args.hundredths / 100 in
    let digits : length (decimal points) ≤ 18 =
    length-decimal-le 18 points (omega arith) (omega (arith, c.requires.size)) (omega (arith, c.requires.size)) in
    let prefix = ap (λ (bs : List ℕ). length bs)
    (c.push_str.ensures.bytes ∙ ap (λ (bs : List ℕ). bs ++ c.args.prefix.now) c.new-text.ensures) in
    let whole = ap (λ (bs : List ℕ). length bs) (c.push_str-2.ensures.bytes
    ∙ ap (λ (bs : List ℕ). c.push_str.new.self.bytes ++ bs) c.format.ensures.text)
    ∙ length-append c.push_str.new.self.bytes (decimal points) in
    omega (arith, whole, prefix, digits, c.requires.room)

pub returns : goal.returns
unfolding size_text
returns c =
    let decimals = decimals_of (c.args.hundredths % 100) in
    c.push_decimals.ensures
    ∙ ap (λ (bs : List ℕ). bs ++ decimals) (c.push_str-2.ensures.bytes
    ∙ ap (λ (bs : List ℕ). c.push_str.new.self.bytes ++ bs) c.format.ensures.text
    ∙ ap (λ (bs : List ℕ). bs ++ decimal (c.args.hundredths / 100))
    (c.push_str.ensures.bytes ∙ ap (λ (bs : List ℕ). bs ++ c.args.prefix.now) c.new-text.ensures))
    ∙ append_assoc c.args.prefix.now (decimal (c.args.hundredths / 100)) decimals
