-- What a meter counts.
use Rattle.std.specs.Prelude.{ℕ, ◌+◌, Option, Some, None}
use Rattle.std.specs.declared.snapshot.Snapshot.{Snapshot}

-- one more than the number before, or 0 where there is none
abbrev pub value_after : Option (Snapshot ℕ) → ℕ
value_after None = 0
value_after (Some before) = before.value + 1
