use Rattle.std.proofs.Common.{◌≤◌, ◌+◌, ◌-◌, ◌*◌}
use Rattle.std.specs.Prelude.{sum_by}
use Rattle.std.specs.List.{range_with_len}
use Rattle.go_game.specs.Counts.{IsAsBefore, most_on, most_on_all}
use Rattle.go_game.specs.inner.Trials.{IsBestTrial}
use Rattle.go_game.proofs.game.Game.best_trial.Given as goal

abbrev pub invariant-loop-number : goal.invariant-loop-number
invariant-loop-number g l = record {
  same : IsAsBefore l.initial.self l.self;
  best : IsBestTrial l.initial.self.standing l.colour l.number l.best;
  count : l.self.count + 4 * sum_by (most_on l.initial.self.standing l.colour)
      (range_with_len l.number (l.initial.self.standing.lines * l.initial.self.standing.lines - l.number))
      ≤ l.initial.self.count + 4 * most_on_all l.initial.self.standing l.colour;
}
