-- How a board went through the moves of a game: what the log has for each play.
use Rattle.std.specs.Prelude.{◌≡◌, ℕ, List, [], ◌∷◌}
use Rattle.go_board.specs.declared.colour.Colour.{Colour}
use Rattle.go_board.specs.declared.vertex.Move.{Move}
use Rattle.go_board.specs.declared.vertex.Vertex.{Vertex}
use Rattle.go_board.specs.declared.vertex.Vertex.TheVariants.{Pass, At}
use Rattle.go_board.specs.Points.{number_of}
use Rattle.go_board.specs.Reaching.{moved}
use Rattle.go_chains.specs.declared.cells.TheConstants.{CELLS}
use Rattle.go_chains.specs.declared.change.Change.{Change}
use Rattle.go_chains.specs.Rewound.{NamesCells, rewound}
use Rattle.go_chains.specs.Sound.{IsKept}
use Rattle.go_chains.specs.Boards.{colouring_of}

-- the turn leads from these cells to the next, and takes its changes off the prefix of the plays: a pass has none,
-- and a play's changes put back give the cells before it
abbrev pub IsTurn : ℕ → List ℕ → Colour → Vertex → List (List Change) → List ℕ → List (List Change) → Type 0
IsTurn n cells c Pass plays next rest = (next ≡ cells) × (rest ≡ plays)
IsTurn n cells c (At p) plays next rest = (changes : List Change) × (plays ≡ changes ∷ rest)
    × (rewound next changes ≡ cells) × NamesCells CELLS changes
    × IsKept n next × (colouring_of n next ≡ moved n (colouring_of n cells) c (number_of n p))

-- the moves lead from the first cells to the last, one turn after the other, with these plays
abbrev pub WentThrough : ℕ → List ℕ → List Move → List (List Change) → List ℕ → Type 0
WentThrough n first [] plays last = (plays ≡ []) × (first ≡ last)
WentThrough n first (m ∷ moves) plays last = (next : List ℕ) × (rest : List (List Change))
    × IsTurn n first m.colour m.vertex plays next rest × WentThrough n next moves rest last
