-- Matches that a task can be read from. For the contract of what reads it.
use Rattle.std.specs.Prelude.{◌≡◌, ◌⊎◌, ℕ, List, Some, codes}
use Rattle.std.specs.Fmt.{decimal}
use Rattle.clap.specs.Walk.{Row, Text, one_of}
use Rattle.goref_cli.specs.CommandLine.{IsSize}

-- a subcommand and its matches that name a task
abbrev pub IsPlainMatch : Text × List Row → Type 0
IsPlainMatch p = (p.0 ≡ codes "judge")
    ⊎ (p.0 ≡ codes "tidy")
    ⊎ ((p.0 ≡ codes "gtp") × ((n : ℕ) × IsSize n × (one_of (codes "size") p.1 ≡ Some (decimal n))))
