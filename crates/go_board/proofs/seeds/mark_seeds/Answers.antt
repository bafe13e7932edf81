use Rattle.std.proofs.Common.{◌≡◌, ◌∙◌, ℕ, ap, subst, sym}
use Rattle.go_board.specs.Points.{number_of}
use Rattle.go_board.specs.inner.Flood.{Grows, IsMarked, IsSeed}
use Rattle.go_board.proofs.Seeding.{seeding_more}
use Rattle.go_board.proofs.seeds.mark_seeds.Goals as goal

pub loop-number-preserved : goal.loop-number-preserved
loop-number-preserved c =
    let n = c.args.grid.now.lines in
    let g = c.args.grid.now.colours in
    let i = c.loop-number.number in
    let number : number_of n c.numbered.result ≡ i =
    ap (λ (m : ℕ). number_of m c.numbered.result) (sym c.size-size.ensures.lines) ∙ c.numbered.ensures.back in
    let grows = subst (λ (k : ℕ). Grows (λ j. (j ≡ k) × IsSeed n g c.args.from c.args.to j) c.loop-number.marks
    c.loop-number.waiting.items c.mark_seed.new.marks c.mark_seed.new.waiting.items) number
    c.mark_seed.ensures.grows in
    let here = subst (λ (k : ℕ). IsSeed n g c.args.from c.args.to k → IsMarked c.mark_seed.new.marks k) number
    c.mark_seed.ensures.marked in
    seeding_more n g c.args.from c.args.to i c.loop-number.marks c.mark_seed.new.marks c.loop-number.waiting.items
    c.mark_seed.new.waiting.items c.loop-number.invariant grows here
