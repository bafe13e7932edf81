use Rattle.std.proofs.Common.{take}
use Rattle.std.specs.List.{flat_map}
use Rattle.go_board.specs.Pens.{Writes}
use Rattle.goref_results.specs.Diagrams.{spaced_letter}
use Rattle.goref_results.proofs.diagram.put_columns.Given as goal

abbrev pub invariant-loop-letter : goal.invariant-loop-letter
invariant-loop-letter g l =
    Writes g.W.Sink l.fn.pen l.pen (flat_map spaced_letter (take l.letter-index l.letters))
