use Rattle.go_board.specs.lemmas.Writing.{writes_writes, writes_then}
use Rattle.go_record.proofs.Writes.{record_text-is}
use Rattle.go_record.specs.Records.{record_body}
use Rattle.go_record.proofs.writer.put_record.Goals as goal

pub returns : goal.returns
returns g c =
    writes_then (record_body c.args.game.now.standing)
    c.put_setting.ensures (writes_writes c.put_turn.ensures
    (writes_writes c.put_stones.ensures (writes_writes c.put_stones-2.ensures
    (writes_writes c.put_moves.ensures c.put.ensures)))) (record_text-is c.args.game.now.standing)
