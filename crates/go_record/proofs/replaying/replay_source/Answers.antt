use Rattle.go_record.proofs.replaying.replay_source.Goals as goal

pub returns-clause-ok : goal.returns-clause-ok
returns-clause-ok g c =
    let of = c.root_values.ensures in
    (of.0, of.1, c.in_ok-walk_on.ensures.ok of.0 of.1 (c.in_ok-root.ensures.ok of.0 of.2))
