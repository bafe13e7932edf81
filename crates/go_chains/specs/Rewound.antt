-- Changes of cells, put back from the last to the first, and lists of plays made of them.
use Rattle.std.specs.Prelude.{ℕ, List, [], ◌∷◌, ◌++◌, ◌≡◌, ◌≤◌, ◌<◌, ◌+◌, length, slice_index, slice_set, take, drop, All}
use Rattle.go_chains.specs.declared.cells.TheConstants.{CELLS}
use Rattle.go_chains.specs.declared.change.Change.{Change}
use Rattle.go_chains.specs.Boards.{BoardValue}

-- the old values put back, from the last change to the first
abbrev pub rewound : List ℕ → List Change → List ℕ
rewound cells [] = cells
rewound cells (change ∷ changes) = slice_set (rewound cells changes) change.place change.old

-- the writes that put the changes back, each with the number that it wrote over
abbrev pub undone : List ℕ → List Change → List Change
undone cells [] = []
undone cells (change ∷ changes) = undone cells changes
    ++ record { place = change.place; old = slice_index (rewound cells changes) change.place } ∷ []

-- each change names a cell
abbrev pub NamesCells : ℕ → List Change → Type 0
NamesCells count changes = All (λ change. change.place < count) changes

-- where a log has a play, this holds of the plays before the last one and of that one's changes
abbrev pub ForLast : List (List Change) → (List (List Change) → List Change → Type 0) → Type 0
ForLast log Holds = (earlier : List (List Change)) (changes : List Change)
    → log ≡ earlier ++ changes ∷ [] → Holds earlier changes

-- the changes of each play: as many of the changes as its length says
abbrev pub plays_of : List ℕ → List Change → List (List Change)
plays_of [] changes = []
plays_of (n ∷ lengths) changes = take n changes ∷ plays_of lengths (drop n changes)

-- how many changes there are in all plays
abbrev pub total : List ℕ → ℕ
total [] = 0
total (n ∷ lengths) = n + total lengths

-- all plays put back, from the last to the first
abbrev pub all_rewound : List ℕ → List (List Change) → List ℕ
all_rewound cells [] = cells
all_rewound cells (changes ∷ plays) = rewound (all_rewound cells plays) changes

-- cells, and a list of plays after each of which its changes put back give the cells before it
abbrev pub Played : List ℕ → List (List Change) → List ℕ → Type 0
Played first [] last = first ≡ last
Played first (changes ∷ plays) last = (cells : List ℕ) × (rewound cells changes ≡ first) × Played cells plays last

-- the log gained one play at its end, of at most `most` changes; put back they give the cells before, and they are all
-- writes to the board's cells
pub record PlayLogged (old new : BoardValue) (before after : List (List Change)) (most : ℕ) : Type 0 where
  pub changes : List Change
  pub gained : after ≡ before ++ changes ∷ []
  pub traced : new.trace ≡ old.trace ++ changes
  pub back : rewound new.cells changes ≡ old.cells
  pub few : length changes ≤ most
  pub names : NamesCells CELLS changes

-- the last play of a log is put back on a board: its cells are as before that play, nothing else was written to
-- them, the log has lost that play alone, and each change was counted
pub record IsRewound (old new : BoardValue) (log earlier : List (List Change)) (changes : List Change)
    (before after : ℕ) : Type 0 where
  pub lines : new.lines ≡ old.lines
  pub cells : new.cells ≡ rewound old.cells changes
  pub traced : new.trace ≡ old.trace ++ undone old.cells changes
  pub dropped : log ≡ earlier
  pub count : after ≡ before + length changes
