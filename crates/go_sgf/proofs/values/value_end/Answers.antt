use Rattle.std.proofs.Common.{take}
use Rattle.go_sgf.proofs.Inside.{ordinary_inside}
use Rattle.go_sgf.proofs.values.value_end.Goals as goal

pub returns-in-Some-clause-inside : goal.returns-in-Some-clause-inside
returns-in-Some-clause-inside c = ordinary_inside (take c.in-Some.place c.args.bytes.now) c.in-Some.ensures.prefix
