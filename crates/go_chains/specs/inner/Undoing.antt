-- The last play of a log, put back. For the contracts of private functions.
use Rattle.std.specs.Prelude.{ℕ, List, ◌++◌, ◌≡◌, ◌+◌, ◌-◌, length, take, drop}
use Rattle.go_chains.specs.declared.change.Change.{Change}
use Rattle.go_chains.specs.Cells.{CellsValue}
use Rattle.go_chains.specs.Rewound.{rewound, undone}

-- the last `count` changes, and those before them
abbrev pub end_of : ℕ → List Change → List Change
end_of count changes = drop (length changes - count) changes

abbrev pub before_end : ℕ → List Change → List Change
before_end count changes = take (length changes - count) changes

-- the last play of a log is put back: the cells are as before it, nothing else was written to them, the log has
-- lost it alone, and the meter counted its changes
pub record IsPutBack (old new : CellsValue) (log earlier : List (List Change)) (changes : List Change)
    (before after : ℕ) : Type 0 where
  pub cells : new.numbers ≡ rewound old.numbers changes
  pub traced : new.trace ≡ old.trace ++ undone old.numbers changes
  pub dropped : log ≡ earlier
  pub count : after ≡ before + length changes
