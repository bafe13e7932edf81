use Rattle.std.proofs.Common.{arith}
use Rattle.go_sgf.proofs.LineWalks.{none_again}
use Rattle.go_sgf.proofs.main_line.MainLine.next_name.Goals as goal

pub returns-clause-next : goal.returns-clause-next
returns-clause-next c = λ vs ps ns l. c.name_here.ensures.next ps ns (c.skip_values.ensures.line vs ps ns l)

pub returns-clause-none : goal.returns-clause-none
returns-clause-none c = none_again c.name_here.result c.skip_values.new.self c.name_here.new.self
    c.name_here.ensures.none
