use Rattle.std.proofs.Common.{arith, ◌≡◌, ◌*◌, ◌∙◌, ℕ, sym, ap, subst}
use Rattle.go_board.specs.Chains.{is_first_of_chain}
use Rattle.go_board.specs.Points.{number_of}
use Rattle.go_board.specs.lemmas.Writing.{writes_then}
use Rattle.go_game.specs.Standings.{board_of}
use Rattle.goref_results.specs.ChainLines.{chain_line}
use Rattle.goref_results.specs.inner.Seen.{AreSeen}
use Rattle.goref_results.proofs.Listing.{lines_more, before_more, chain_some}
use Rattle.goref_results.proofs.chain_lines.put_chains.Goals as goal

pub loop-number-preserved : goal.loop-number-preserved
loop-number-preserved g c =
    let s = c.args.game.now.standing in
    let n = s.lines in
    let line = chain_line n (board_of s) in
    let first = is_first_of_chain n (board_of s) in
    let k = c.loop-number.number in
    let here : number_of n c.numbered-at.result ≡ k =
    ap (λ (m : ℕ). number_of m c.numbered-at.result) (sym c.size-size.ensures.lines) ∙ c.numbered-at.ensures.back in
    record {
      lines = writes_then _ c.loop-number.invariant.lines
          (rw (here, c.loop-number.invariant.before) at c.put_if_first-before.ensures.line)
          (lines_more line (chain_some n (board_of s)) first k);
      before = (rw (here, c.loop-number.invariant.before) at c.put_if_first-before.ensures.next) ∙ before_more first k;
      seen = rw here at c.put_if_first-before.ensures.seen;
    }

pub returns : goal.returns
returns g c =
    let n = c.args.game.now.standing.lines in
    let all : c.loop-number.number ≡ n * n =
    omega (
      arith,
      c.loop-number-test.false,
      c.loop-number.auto.number-end,
      c.points-number-end.ensures.value,
      ap (λ (m : ℕ). m * m) c.size-size.ensures.lines,
    ) in
    rw all at c.loop-number.invariant.lines

pub put_if_first-before-requires-clause-seen : goal.put_if_first-before-requires-clause-seen
put_if_first-before-requires-clause-seen g c =
    let s = c.args.game.now.standing in
    let n = s.lines in
    let here : number_of n c.numbered-at.result ≡ c.loop-number.number =
    ap (λ (m : ℕ). number_of m c.numbered-at.result) (sym c.size-size.ensures.lines) ∙ c.numbered-at.ensures.back in
    subst (λ (k : ℕ). AreSeen n (board_of s) k c.loop-number.seen) (sym here) c.loop-number.invariant.seen
