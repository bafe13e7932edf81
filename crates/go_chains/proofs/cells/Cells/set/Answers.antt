use Rattle.std.proofs.Common.{arith, ◌∙◌, List, ap, slice_index, sym, ℕ}
use Rattle.go_board.specs.Packs.{packed_of}
use Rattle.go_board.specs.declared.size.TheConstants.{MAX_LINES}
use Rattle.go_chains.specs.Boards.{colouring_of}
use Rattle.go_chains.proofs.answers.Packs.{pack_left}
use Rattle.go_chains.proofs.cells.Cells.set.Goals as goal

pub invariant_of-self : goal.invariant_of-self
invariant_of-self g c =
    c.put.ensures c.self.inside.numbers
    (ap (λ (l : List ℕ). slice_index l c.args.place) (sym c.set.ensures.value) ∙ c.set.ensures.written.at)
    c.self.invariant
    ∙ ap (λ (l : List ℕ). packed_of (colouring_of MAX_LINES l)) (sym c.set.ensures.value)

pub invariant_of-self-else-place-lt-MAX_POINTS : goal.invariant_of-self-else-place-lt-MAX_POINTS
invariant_of-self-else-place-lt-MAX_POINTS g c =
    pack_left c.self.inside.numbers c.self.inside.colours c.args.place c.args.number
    (omega (arith, c.if-place-lt-MAX_POINTS.false)) c.self.invariant
    ∙ ap (λ (l : List ℕ). packed_of (colouring_of MAX_LINES l)) (sym c.set.ensures.value)
