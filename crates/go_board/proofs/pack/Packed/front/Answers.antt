use Rattle.std.proofs.Common.{◌≡◌, ◌-◌, ◌∙◌, ◌++◌, ℕ, List, ap, ap₂, arith, length, length-take-le, replicate, sym, take-append-drop}
use Rattle.go_board.specs.declared.pack.Packed.{Packed}
use Rattle.go_board.specs.declared.pack.TheConstants.{PACK_BYTES}
use Rattle.go_board.proofs.Packing.{zeros}
use Rattle.go_board.proofs.pack.Packed.front.Goals as goal

pub returns-then-are_all_zero-clause-some : goal.returns-then-are_all_zero-clause-some
returns-then-are_all_zero-clause-some c =
    let cut = c.in_ok-prefix.ensures.cases in
    let prefix : length c.in_ok-prefix.prefix.now ≡ c.args.count = ap length cut.1
    ∙ length-take-le c.args.count c.bytes.result.now cut.0 in
    let count : length c.in_ok-prefix.rest.now ≡ PACK_BYTES - length c.in_ok-prefix.prefix.now =
    omega (arith, cut, c.bytes.ensures.long, ap length cut.2, prefix) in
    let rest = ap (λ n. replicate n 0) (sym count) ∙ sym (zeros c.in_ok-prefix.rest.now (sym c.if-are_all_zero.ensures))
    ∙ cut.2 in
    let whole = ap₂ (λ (prefix rest : List ℕ). prefix ++ rest) cut.1 rest
    ∙ take-append-drop c.args.count c.bytes.result.now ∙ c.bytes.ensures.value in (
      prefix,
      ap (λ (bytes : List ℕ). let pack : Packed = record { bytes = bytes } in pack) whole,
    )
