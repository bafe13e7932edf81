use Rattle.std.proofs.Common.{◌∙◌, ◌++◌, ℕ, List, ap, ap₂, length}
use Rattle.std.proofs.lemmas.List.{drop-replicate}
use Rattle.go_board.specs.declared.pack.Packed.{Packed}
use Rattle.go_board.specs.declared.pack.TheConstants.{PACK_BYTES}
use Rattle.go_board.proofs.pack.Packed.of_front.Goals as goal

pub returns : goal.returns
returns c =
    let rest = c.split_at_mut.ensures.back ∙ drop-replicate (length c.args.front.now) PACK_BYTES 0 in
    let whole = ap₂ (λ (front rest : List ℕ). front ++ rest) c.copy_from_slice.ensures.after rest in
    ap (λ (bytes : List ℕ). let pack : Packed = record { bytes = bytes } in pack) whole
