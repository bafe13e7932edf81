use Rattle.goref_session.proofs.session.Session.loadsgf.Goals as goal

pub returns-in-Err-load : goal.returns-in-Err-load
returns-in-Err-load g c =
    rw c.in-Err-load.ensures.stays (c.in-Ok.ensures.asked c.args.self.now _ c.in-Err-load.ensures.decides)
