-- How a session starts, and starts anew.
use Rattle.std.specs.Prelude.{ℕ, pos}
use Rattle.go_game.specs.declared.superko.Superko.TheVariants.{Positional}
use Rattle.go_game.specs.Standings.{Standing, empty_start}

-- an empty board of n lines under the positional rule, with no komi
abbrev pub begun : ℕ → Standing
begun n = empty_start n (pos 0) Positional

-- the same, under the komi and the rule of a standing
abbrev pub emptied : Standing → ℕ → Standing
emptied s n = empty_start n s.komi s.rule
