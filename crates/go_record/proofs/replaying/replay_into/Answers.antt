use Rattle.go_record.proofs.replaying.replay_into.Goals as goal

pub returns-clause-ok : goal.returns-clause-ok
returns-clause-ok g c =
    let of = c.root_values.ensures in
    (of.0, of.1, c.walk_on.ensures.ok of.0 of.1 (c.in_ok-root.ensures.ok of.0 of.2))

pub returns-clause-err : goal.returns-clause-err
returns-clause-err g c =
    let of = c.root_values.ensures in
    (of.0, of.1, c.walk_on.ensures.err of.0 of.1 (c.in_ok-root.ensures.ok of.0 of.2))
