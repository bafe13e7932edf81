use Rattle.std.proofs.Common.{◌∙◌, ℕ, ap, subst, sym, true≢false}
use Rattle.std.proofs.lemmas.Bool.{false_from_ne_true}
use Rattle.std.proofs.Math.ListN.{get_or}
use Rattle.go_board.specs.inner.Flood.{IsMarked}
use Rattle.go_board.specs.Points.{is_adjacent, number_of}
use Rattle.go_board.specs.Reaching.{connects}
use Rattle.go_board.proofs.Beside.{adjacent_at, are_neighbours, each_done, each_more, origin}
use Rattle.go_board.proofs.Deciding.{connects_is, path_on}
use Rattle.go_board.proofs.Numbers.{number_of-lt}
use Rattle.go_board.proofs.Seeding.{adjacent-sym}
use Rattle.go_board.proofs.plain.is_beside_chain.Goals as goal

pub returns-then-chain-from : goal.returns-then-chain-from
returns-then-chain-from c =
    let n = c.args.grid.now.lines in
    let r = get_or c.as_slice-r-items.result.now c.loop-r.r-index origin in
    let them = are_neighbours c.args.q c.size-size.ensures.lines c.as_slice-r-items.ensures.value
    c.neighbours-beside.ensures.on c.neighbours-beside.ensures.beside c.neighbours-beside.ensures.each in
    let at = c.from.ensures ∙ c.index.ensures.value ∙ ap (λ (m : ℕ). number_of m r) c.size-size.ensures.lines in
    let marked = subst (IsMarked c.args.chain.now) at c.if-chain-from.true in
    let adjacent = adjacent-sym n (number_of n c.args.q) (number_of n r)
    (adjacent_at n c.args.q c.as_slice-r-items.result.now c.loop-r.r-index c.requires.q_on c.loop-r-test.true
    them) in
    sym ((connects_is n c.args.grid.now.colours (λ s. is_adjacent n s (number_of n c.args.q)) (number_of n c.args.p)
    (number_of-lt n c.args.p c.requires.p_on)).1
    (number_of n r, (c.requires.chain (number_of n r)).0 marked, adjacent.2))

pub loop-r-preserved : goal.loop-r-preserved
loop-r-preserved c =
    let n = c.args.grid.now.lines in
    let r = get_or c.as_slice-r-items.result.now c.loop-r.r-index origin in
    let at = c.from.ensures ∙ c.index.ensures.value ∙ ap (λ (m : ℕ). number_of m r) c.size-size.ensures.lines in
    each_more n c.as_slice-r-items.result.now c.loop-r.r-index (λ j. IsMarked c.args.chain.now j → ⊥) c.loop-r-test.true
    c.loop-r.invariant
    (λ m. true≢false (sym (subst (IsMarked c.args.chain.now) (sym at) m) ∙ c.if-chain-from.false))

pub returns : goal.returns
returns c =
    let n = c.args.grid.now.lines in
    let q = number_of n c.args.q in
    let low = number_of-lt n c.args.p c.requires.p_on in
    let them = are_neighbours c.args.q c.size-size.ensures.lines c.as_slice-r-items.ensures.value
    c.neighbours-beside.ensures.on c.neighbours-beside.ensures.beside c.neighbours-beside.ensures.each in
    sym (false_from_ne_true (connects n c.args.grid.now.colours (number_of n c.args.p) (λ r. is_adjacent n r q)) (λ e.
    let h = (connects_is n c.args.grid.now.colours (λ r. is_adjacent n r q) (number_of n c.args.p) low).0 e in
    let r_low = path_on n c.args.grid.now.colours (number_of n c.args.p) h.1.0 h.0 low h.1.1 in
    each_done n c.args.q c.as_slice-r-items.result.now c.loop-r.r-index (λ j. IsMarked c.args.chain.now j → ⊥)
    c.requires.q_on c.loop-r-test.false them c.loop-r.invariant h.0
    (adjacent-sym n h.0 q (r_low, number_of-lt n c.args.q c.requires.q_on, h.2)) ((c.requires.chain h.0).1 h.1)))
