use Rattle.std.proofs.Common.{sym}
use Rattle.go_record.proofs.Lines.{bad_komi, bad_size, not_go}
use Rattle.go_record.proofs.root.root_of.Goals as goal

pub returns-then-not-is_go-clause-err : goal.returns-then-not-is_go-clause-err
returns-then-not-is_go-clause-err c = λ t r number.
    not_go t number (sym (rw r.game at c.if-not-is_go.ensures))

pub returns-in_default-clause-err : goal.returns-in_default-clause-err
returns-in_default-clause-err c = λ t r number.
    bad_size t number (sym (rw r.game at c.if-not-is_go.ensures))
    (sym (rw (c.in_default.is, r.size) at c.size_of.ensures))

pub returns-in-None-clause-err : goal.returns-in-None-clause-err
returns-in-None-clause-err c = λ t r number.
    bad_komi t number c.in-Some.size (sym (rw r.game at c.if-not-is_go.ensures))
    (sym (rw (c.in-Some.is, r.size) at c.size_of.ensures))
    (sym (rw (c.in-None.is, r.komi) at c.komi_of.ensures.value))
