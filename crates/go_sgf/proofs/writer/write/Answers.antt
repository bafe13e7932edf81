use Rattle.go_board.specs.Device.{Sent}
use Rattle.go_sgf.specs.Record.{Trees}
use Rattle.go_sgf.specs.Spelling.{canonical}
use Rattle.go_sgf.specs.lemmas.Records.{of_this_record}
use Rattle.go_sgf.proofs.writer.write.Goals as goal

pub returns-clause-sent : goal.returns-clause-sent
returns-clause-sent g c =
    of_this_record c.one_record.ensures
    (λ (t : Trees). Sent c.tidy.result (g.W.Sink.taken c.args.writer.now) (g.W.Sink.taken c.tidy.new.writer)
    (canonical t))
    c.checked.ensures c.tidy.ensures.sent
