use Rattle.std.proofs.Common.{arith, ◌∙◌, ℕ, List, ap, length, slice_index_or, slice_set}
use Rattle.std.proofs.lemmas.List.{length-replicate}
use Rattle.std.proofs.lemmas.List.Edits.{fill_by_more}
use Rattle.std.proofs.lemmas.List.FromFn.{fill_by_all}
use Rattle.std.proofs.Math.ListN.{length-set}
use Rattle.go_board.specs.declared.pack.TheConstants.{PACK_BYTES}
use Rattle.go_board.specs.PackBytes.{bytes_of}
use Rattle.go_board.specs.Packs.{byte_of, packed_of}
use Rattle.go_board.proofs.grid.Grid.pack.Goals as goal

pub loop-place-init : goal.loop-place-init
loop-place-init c = (
  ap length c.empty-packed.ensures ∙ length-replicate {A = ℕ} PACK_BYTES 0,
  λ k low.
      absurd (omega (arith, low)),
)

pub loop-place-preserved : goal.loop-place-preserved
loop-place-preserved c =
    let kept = c.loop-place.invariant in
    let bytes = bytes_of c.loop-place.packed in
    let place = c.loop-place.place in
    let set = c.set.ensures ∙ ap (slice_set bytes place) c.byte_at.ensures in (
      ap length set ∙ length-set bytes place _ ∙ kept.0,
      λ k low. ap (λ (b : List ℕ). slice_index_or b k 0) set
          ∙ fill_by_more (byte_of c.args.self.now.colours) bytes place 0 (omega (arith, kept.0, c.loop-place-test.true))
          kept.1 k low,
    )

pub returns : goal.returns
unfolding packed_of
returns c =
    let kept = c.loop-place.invariant in
    fill_by_all (byte_of c.args.self.now.colours) (bytes_of c.loop-place.packed) PACK_BYTES 0 kept.0
    (λ k low. kept.1 k (omega (arith, low, c.loop-place-test.false)))
