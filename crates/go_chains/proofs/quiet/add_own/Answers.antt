use Rattle.std.proofs.Common.{arith}
use Rattle.go_chains.proofs.rules.Quiet.{label_low}
use Rattle.go_chains.proofs.quiet.add_own.Goals as goal

pub put_liberties-requires : goal.put_liberties-requires
put_liberties-requires g c = record {
  label = omega (
    arith,
    c.get-label.ensures.value,
    label_low c.args.size c.args.cells.now.numbers c.requires.kept c.args.near c.requires.near
        (λ e. omega (arith, c.requires.own, c.get.ensures.value, c.if-get-own.false, e)),
  );
}
