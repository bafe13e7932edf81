use Rattle.std.proofs.Common.{refl}
use Rattle.go_board.specs.lemmas.Writing.{writes_then}
use Rattle.go_record.specs.Records.{record_body}
use Rattle.goref_results.specs.Results.{result_text}
use Rattle.goref_session.proofs.facts.put_game.Goals as goal

pub returns : goal.returns
returns g c = writes_then (result_text (record_body c.args.game.now.standing)) c.put.ensures c.put_record.ensures refl
