use Rattle.std.proofs.Common.{List, [], subst}
use Rattle.go_sgf.specs.MainLine.{IsLeft}
use Rattle.go_sgf.specs.Record.{Property}
use Rattle.go_sgf.proofs.main_line.MainLine.next_node.Goals as goal

pub returns-in-None-clause-next : goal.returns-in-None-clause-next
returns-in-None-clause-next c = λ vs ps ns l.
    let left = c.skip_properties.ensures.line vs ps ns l in
    let none = (rw c.self.view_is at c.in-None.ensures.none) ns left in
    (none, subst (λ (ms : List (List Property)). IsLeft c.skip_properties.new.self [] [] ms) none left)
