use Rattle.std.proofs.Common.{arith, ◌≡◌, ◌≤◌, ◌+◌, ◌*◌, ◌∙◌, ℕ, ap, ap₂, cond, count_by, sym}
use Rattle.std.specs.List.{range_with_len}
use Rattle.std.proofs.lemmas.List.Sums.{length-filter}
use Rattle.go_board.specs.Points.{number_of}
use Rattle.go_board.specs.Reaching.{is_liberty_of, points}
use Rattle.go_board.proofs.Clearing.{count_more}
use Rattle.go_board.proofs.plain.liberties_of.Goals as goal
use Rattle.go_board.proofs.plain.liberties_of.Goals.{then-is_liberty_of_chain, else-is_liberty_of_chain}

pub loop-number-preserved : goal.loop-number-preserved
loop-number-preserved c =
    let n = c.args.grid.now.lines in
    let g = c.args.grid.now.colours in
    let p = number_of n c.args.p in
    let i = c.loop-number.number in
    let here : number_of n c.numbered.result ≡ i =
    ap (λ (m : ℕ). number_of m c.numbered.result) (sym c.size-size.ensures.lines) ∙ c.numbered.ensures.back in
    let counts : c.is_liberty_of_chain.result ≡ is_liberty_of n g p i = c.is_liberty_of_chain.ensures
    ∙ ap (λ (q : ℕ). is_liberty_of n g p q) here in
    let count : c.if-is_liberty_of_chain.count ≡ c.loop-number.count + cond c.is_liberty_of_chain.result 1 0 =
    elim c.if-is_liberty_of_chain.branch [
      | then-is_liberty_of_chain w ↦ w.count-is
          ∙ ap (λ b. c.loop-number.count + cond b 1 0) (sym w.if-is_liberty_of_chain.true)
      | else-is_liberty_of_chain w ↦ w.count-is
          ∙ (let none : c.loop-number.count ≡ c.loop-number.count + 0 = omega arith in none)
          ∙ ap (λ b. c.loop-number.count + cond b 1 0) (sym w.if-is_liberty_of_chain.false)
    ] in
    record {
      few = elim c.if-is_liberty_of_chain.branch [
        | then-is_liberty_of_chain w ↦ omega (arith, w.count-is, c.loop-number.invariant.few)
        | else-is_liberty_of_chain w ↦ omega (arith, w.count-is, c.loop-number.invariant.few)
      ];
      counted = count ∙ ap₂ (λ m b. let k : ℕ = m + cond b 1 0 in k) c.loop-number.invariant.counted counts
          ∙ sym (count_more (is_liberty_of n g p) i);
    }

pub returns : goal.returns
returns c =
    let n = c.args.grid.now.lines in
    let test = is_liberty_of n c.args.grid.now.colours (number_of n c.args.p) in
    let square = ap (λ (m : ℕ). m * m) c.size-size.ensures.lines in
    let all : n * n ≤ c.loop-number.number =
    omega (arith, c.loop-number-test.false, c.points-number-end.ensures.value, square) in
    let most : c.loop-number.number ≤ n * n =
    omega (arith, c.loop-number.auto.number-end, c.points-number-end.ensures.value, square) in
    c.loop-number.invariant.counted
    ∙ ap (λ k. count_by test (range_with_len 0 k)) (let same : c.loop-number.number ≡ n * n = omega arith in same)
    ∙ sym (length-filter test (points n))
