use Rattle.std.proofs.Common.{arith, ◌<◌}
use Rattle.go_chains.proofs.answers.Codes.{put-at, put-fits, put-others}
use Rattle.go_chains.proofs.packed_colours.with_code.Goals as goal

pub overflow_add-result : goal.overflow_add-result
overflow_add-result c =
    let byte : c.args.byte < 256 = omega arith in
    omega (arith, put-fits c.args.byte c.args.at c.args.code byte c.requires.code c.requires.at)

pub returns-clause-code : goal.returns-clause-code
returns-clause-code c = put-at c.args.byte c.args.at c.args.code (omega arith) c.requires.code c.requires.at

pub returns-clause-others : goal.returns-clause-others
returns-clause-others c = put-others c.args.byte c.args.at c.args.code (omega arith) c.requires.code c.requires.at
