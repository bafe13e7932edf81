-- One edit of the cells, as the steps of a play make them.
use Rattle.std.specs.Prelude.{ℕ, List, Vec, ◌≡◌, ◌≤◌, ◌+◌, ◌++◌, length, vec_capacity, vec_len}
use Rattle.go_chains.specs.declared.change.Change.{Change}
use Rattle.go_chains.specs.declared.cells.TheConstants.{CELLS}
use Rattle.go_chains.specs.Cells.{CellsValue}
use Rattle.go_chains.specs.Rewound.{NamesCells, rewound}

-- the log gained changes, at most `most`; put back they give the cells before, and they are all writes to the cells
pub record Logged (old new : CellsValue) (before after : List Change) (most : ℕ) : Type 0 where
  pub added : List Change
  pub grown : after ≡ before ++ added
  pub traced : new.trace ≡ old.trace ++ added
  pub back : rewound new.numbers added ≡ old.numbers
  pub few : length added ≤ most
  pub names : NamesCells CELLS added

-- the cells were edited: the log gained changes, at most `most`, which put back give the cells before, and kept its
-- memory; each of them was counted, and so were the reads, together at most `ticks`
pub record Edited {A : Type 0} (old new : CellsValue) (changes changes' : Vec Change A) (meter meter' most ticks : ℕ) :
    Type 0 where
  pub logged : Logged old new changes.items changes'.items most
  pub capacity : vec_capacity changes ≤ vec_capacity changes'
  pub length : vec_len changes' ≤ vec_len changes + most
  pub count : meter' ≤ meter + ticks
  pub ticked : meter + vec_len changes' ≤ meter' + vec_len changes
