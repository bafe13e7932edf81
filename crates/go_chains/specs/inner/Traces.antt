-- What was written to cells: a list of changes that grows at its end.
use Rattle.std.specs.Prelude.{ℕ, List, [], ◌∷◌, ◌++◌, Option, Some, None, slice_index}
use Rattle.std.specs.declared.snapshot.Snapshot.{Snapshot}
use Rattle.go_chains.specs.declared.change.Change.{Change}

-- the writes of a list and the last one, to a place where these were the numbers, or none where there is no list
abbrev pub writes_of : Option (Snapshot (List Change)) → ℕ → Snapshot (List ℕ) → List Change
writes_of None place numbers = []
writes_of (Some before) place numbers = before.value
    ++ record { place = place; old = slice_index numbers.value place } ∷ []
