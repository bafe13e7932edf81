use Rattle.std.proofs.Common.{[], ap, sym}
use Rattle.go_record.specs.MainLine.{leading_value}
use Rattle.go_record.proofs.LineSteps.{value_leads}
use Rattle.go_record.proofs.values.first_value.Goals as goal

pub returns-in-Some-clause-value : goal.returns-in-Some-clause-value
returns-in-Some-clause-value c = λ values later nodes l.
    let next = c.in-Some.ensures.next values later nodes l in
    value_leads c.in-Some.value.now values next.0 next.1

pub returns-in-Some-clause-cursor : goal.returns-in-Some-clause-cursor
returns-in-Some-clause-cursor c = λ later nodes at. let next = c.in-Some.ensures.next at.0 later nodes at.1 in
    (next.0, next.2)

pub returns-in-None-clause-value : goal.returns-in-None-clause-value
returns-in-None-clause-value c = λ values later nodes l.
    sym (ap leading_value (c.in-None.ensures.next values later nodes l).0)

pub returns-in-None-clause-cursor : goal.returns-in-None-clause-cursor
returns-in-None-clause-cursor c = λ later nodes at. ([], (c.in-None.ensures.next at.0 later nodes at.1).1)
