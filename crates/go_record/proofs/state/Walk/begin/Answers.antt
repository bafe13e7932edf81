use Rattle.std.proofs.Common.{refl}
use Rattle.go_record.proofs.state.Walk.begin.Goals as goal

pub returns-in-Err-NoLiberty-clause-err : goal.returns-in-Err-NoLiberty-clause-err
returns-in-Err-NoLiberty-clause-err g c = λ some. record {
  point = c.in-Err-NoLiberty.p;
  first = (c.begin_from.ensures.no_liberty c.in-Err-NoLiberty.p
      (cc (c.in-Err-NoLiberty.is, c.in-Err-NoLiberty.field-0-is, c.in-Err-NoLiberty.p-is))).0;
  refusal = refl;
}
