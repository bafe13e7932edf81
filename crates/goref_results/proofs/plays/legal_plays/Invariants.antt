use Rattle.std.proofs.Common.{◌≡◌}
use Rattle.go_game.specs.Counts.{IsAsBefore}
use Rattle.goref_results.specs.Plays.{marked_below}
use Rattle.goref_results.proofs.plays.legal_plays.Given as goal

abbrev pub invariant-loop-number : goal.invariant-loop-number
invariant-loop-number g l = record {
  plays : l.plays ≡ marked_below l.number l.initial.game.standing l.colour;
  same : IsAsBefore l.initial.game l.game;
}
