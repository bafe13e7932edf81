use Rattle.std.proofs.Common.{arith, ◌≡◌, ◌∙◌, ap, ℕ, slice_set}
use Rattle.std.specs.Prelude.{Some}
use Rattle.go_board.specs.Packs.{packed_of}
use Rattle.go_board.specs.PackBytes.{bytes_of}
use Rattle.go_board.specs.Points.{number_of}
use Rattle.go_chains.specs.Boards.{grid_of}
use Rattle.go_chains.proofs.answers.Packs.{packed_put}
use Rattle.go_chains.proofs.answers.Queries.{points-kept}
use Rattle.go_chains.proofs.rules.Sound.{length-colouring}
use Rattle.go_chains.proofs.board.packs.Board+Open.pack_with.Goals as goal

pub returns : goal.returns
returns c =
    let n = c.args.self.now.lines in
    let cells = c.args.self.now.cells in
    let kept = c.size-size.ensures.kept in
    let q = c.from-point.result in
    let point : q ≡ number_of n c.args.p = c.from-point.ensures ∙ c.index.ensures.value
    ∙ ap (λ (k : ℕ). number_of k c.args.p) c.size-size.ensures.lines in
    let low = c.points_by_number.ensures.number n c.args.p c.requires in
    let whole = length-colouring n cells in
    let few = points-kept n cells kept in
    let put = packed_put (grid_of c.args.self.now) (bytes_of c.pack-packed.result) q c.byte-byte.result
    c.with_code.result c.code.result c.args.colour
    (omega (arith, whole, few)) (omega (arith, whole, low, point)) c.pack-packed.ensures c.with_code.type_inv
    c.byte-byte.ensures c.with_code.ensures.code c.with_code.ensures.others c.code.ensures.value in
    c.set.ensures ∙ put ∙ ap (λ (k : ℕ). packed_of (slice_set (grid_of c.args.self.now) k (Some c.args.colour))) point
