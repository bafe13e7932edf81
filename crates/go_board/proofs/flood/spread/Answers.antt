use Rattle.std.proofs.Common.{◌≡◌, ◌<◌, ◌*◌, ◌∙◌, ℕ, sym, subst, ap, true≢false}
use Rattle.go_board.specs.Points.{number_of}
use Rattle.go_board.specs.inner.Flood.{Grows, IsMarked, IsStep}
use Rattle.go_board.proofs.Flooding.{flood_done, flood_more, last_on}
use Rattle.go_board.proofs.flood.spread.Goals as goal

pub numbered-requires : goal.numbered-requires
numbered-requires c =
    let low = last_on c.args.grid.now.lines c.args.grid.now.colours c.args.marks.now c.loop-number.marks
    c.loop-number.waiting.items c.pop.new.self.items c.in-Some.number c.in-Some.ensures.items
    c.loop-number.invariant in
    subst (λ (n : ℕ). c.in-Some.number < n * n) (sym c.size.ensures.lines) low

pub loop-number-preserved : goal.loop-number-preserved
loop-number-preserved c =
    let n = c.args.grid.now.lines in
    let g = c.args.grid.now.colours in
    let number : number_of n c.numbered.result ≡ c.in-Some.number =
    ap (λ (m : ℕ). number_of m c.numbered.result) (sym c.size.ensures.lines) ∙ c.numbered.ensures.back in
    let grows = subst (λ (k : ℕ). Grows (IsStep n g k) c.loop-number.marks c.pop.new.self.items c.mark_beside.new.marks
    c.mark_beside.new.waiting.items) number c.mark_beside.ensures.grows in
    let done = subst (λ (k : ℕ). (j : ℕ) → IsStep n g k j → IsMarked c.mark_beside.new.marks j) number
    c.mark_beside.ensures.done in
    flood_more n g c.args.marks.now c.loop-number.marks c.loop-number.waiting.items c.pop.new.self.items
    c.in-Some.number c.mark_beside.new.marks c.mark_beside.new.waiting.items c.in-Some.ensures.items
    c.loop-number.invariant grows done

pub returns : goal.returns
returns c = flood_done c.args.grid.now.lines c.args.grid.now.colours c.args.marks.now c.loop-number.marks
    c.loop-number.waiting.items (λ some. true≢false (sym (c.in_default.ensures.variant.1 some))) c.loop-number.invariant
