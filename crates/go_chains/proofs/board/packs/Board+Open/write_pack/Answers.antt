use Rattle.std.proofs.Common.{arith, ◌≡◌, ◌<◌, ◌*◌, ◌/◌, ◌∙◌, ℕ, List, ap, length, slice_index_or, slice_set, sym}
use Rattle.std.proofs.lemmas.List.Edits.{fill_by_more}
use Rattle.std.proofs.Math.ListN.{length-set}
use Rattle.go_board.specs.declared.pack.TheConstants.{PACK_BYTES}
use Rattle.go_board.specs.lemmas.Squares.{square-le}
use Rattle.go_board.specs.PackBytes.{bytes_of}
use Rattle.go_board.specs.Packs.{byte_of}
use Rattle.go_chains.specs.Boards.{grid_of}
use Rattle.go_chains.proofs.answers.Packs.{largest-at, length-pack}
use Rattle.go_chains.proofs.answers.Queries.{byte_none}
use Rattle.go_chains.proofs.board.packs.Board+Open.write_pack.Goals as goal

pub loop-place-init : goal.loop-place-init
loop-place-init c =
    let n = c.args.self.now.lines in
    let cells = c.args.self.now.cells in
    let bytes = bytes_of c.pack_of_cells.result.now in
    let full = c.from-full.result / 4 in
    let f : ℕ → ℕ = byte_of (grid_of c.args.self.now) in
    let small = c.size.ensures.kept.small in
    let all : c.from-full.result ≡ n * n = c.from-full.ensures ∙ c.points.ensures.value
    ∙ ap (λ (k : ℕ). k * k) c.size.ensures.lines in
    let whole : length bytes ≡ PACK_BYTES = ap length c.pack_of_cells.ensures ∙ length-pack _ in
    let last : c.last_byte.result ≡ f full = c.last_byte.ensures ∙ ap (λ (k : ℕ). f (k / 4)) (sym all) in
    let set : bytes_of c.set.new.self ≡ slice_set bytes full (f full) = c.set.ensures
    ∙ ap (slice_set bytes full) last in
    let prefix : (k : ℕ) → k < full → slice_index_or bytes k 0 ≡ f k = λ k low.
    largest-at n cells bytes k small (square-le n small) (omega (arith, all)) c.pack_of_cells.ensures in
    record {
      whole = ap length set ∙ length-set bytes full _ ∙ whole;
      done = λ k low. ap (λ (b : List ℕ). slice_index_or b k 0) set
          ∙ fill_by_more f bytes full 0 (omega (arith, whole, c.points.ensures.range, c.from-full.ensures)) prefix k low;
    }

pub loop-place-preserved : goal.loop-place-preserved
loop-place-preserved c =
    let kept = c.loop-place.invariant in
    let n = c.args.self.now.lines in
    let bytes = bytes_of c.loop-place.packed in
    let place = c.loop-place.place in
    let f : ℕ → ℕ = byte_of (grid_of c.args.self.now) in
    let all : c.from-full.result ≡ n * n = c.from-full.ensures ∙ c.points.ensures.value
    ∙ ap (λ (k : ℕ). k * k) c.size.ensures.lines in
    let none : f place ≡ 0 = byte_none n c.args.self.now.cells place (omega (arith, all, c.loop-place.auto.place)) in
    let set : bytes_of c.set-in-loop-place.new.self ≡ slice_set bytes place (f place) = c.set-in-loop-place.ensures
    ∙ ap (slice_set bytes place) (sym none) in
    record {
      whole = ap length set ∙ length-set bytes place _ ∙ kept.whole;
      done = λ k low. ap (λ (b : List ℕ). slice_index_or b k 0) set
          ∙ fill_by_more f bytes place 0 (omega (arith, kept.whole, c.loop-place-test.true)) kept.done k low;
    }

pub returns : goal.returns
returns c =
    let kept = c.loop-place.invariant in
    c.bytes_make_a_pack.ensures (grid_of c.args.self.now) (bytes_of c.loop-place.packed) kept.whole
    (λ i i_in. kept.done i (omega (arith, i_in, c.loop-place-test.false)))
