use Rattle.std.proofs.Common.{◌≡◌, ◌++◌, ℕ, List, drop, map}
use Rattle.std.specs.List.{join_with_byte}
use Rattle.go_board.specs.Pens.{Writes}
use Rattle.goref_session.specs.Commands.{command_names}
use Rattle.goref_session.proofs.Named.{listed, named}
use Rattle.goref_results.specs.Results.{result_text}
use Rattle.goref_session.proofs.facts.put_commands.Given as goal

abbrev pub invariant-loop-name : goal.invariant-loop-name
invariant-loop-name g l =
    (done : List ℕ)
    × Writes g.W.Sink l.fn.pen l.pen done
    × (done ++ listed l.before (map named (drop l.name-index l.name-items)) ≡ result_text
    (join_with_byte 10 command_names))
