use Rattle.std.proofs.Common.{[]}
use Rattle.std.proofs.lemmas.List.{append-nil}
use Rattle.goref.proofs.Progressing.{begins}
use Rattle.goref.proofs.runs.answer_lines.Goals as goal

pub returns-in-Ok-More-clause-answered : goal.returns-in-Ok-More-clause-answered
returns-in-Ok-More-clause-answered g c =
    let given = g.S.Shelf.given c.args.shelf.now in
    let taken = g.W.Sink.taken c.args.writer.now in
    c.end_input.ensures.finishes c.args.session.now c.args.text.now given taken
    (rw (c.in-Ok-More.is, c.in-Ok-More.field-0-is) at
    (c.feed.ensures.proceeds c.args.session.now [] given taken
    (rw c.new-line.ensures (begins c.args.session.now given taken))))

pub returns-in-Ok-Quit-clause-answered : goal.returns-in-Ok-Quit-clause-answered
returns-in-Ok-Quit-clause-answered g c =
    let given = g.S.Shelf.given c.args.shelf.now in
    let taken = g.W.Sink.taken c.args.writer.now in
    rw append-nil at
    (rw (c.in-Ok-Quit.is, c.in-Ok-Quit.field-0-is) at
    (c.feed.ensures.proceeds c.args.session.now [] given taken
    (rw c.new-line.ensures (begins c.args.session.now given taken))) [])

pub returns-in-Err-clause-answered : goal.returns-in-Err-clause-answered
returns-in-Err-clause-answered g c =
    let given = g.S.Shelf.given c.args.shelf.now in
    let taken = g.W.Sink.taken c.args.writer.now in
    rw append-nil at
    (rw c.in-Err.is at
    (c.feed.ensures.proceeds c.args.session.now [] given taken
    (rw c.new-line.ensures (begins c.args.session.now given taken))) [])
