use Rattle.std.proofs.Common.{◌≡◌}
use Rattle.go_game.specs.Standings.{without_last}
use Rattle.goref_c.proofs.held.Held.undo.Given as goal

abbrev pub invariant-loop : goal.invariant-loop
invariant-loop l =
    (l.self-inside.session ≡ without_last l.counter l.initial.self-inside.session)
    × (l.self-inside.answers ≡ l.initial.self-inside.answers)
    × (l.self-inside.is_over ≡ l.initial.self-inside.is_over)
