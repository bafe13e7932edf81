-- The points of a chain that are still to come, and its label.
use Rattle.std.specs.Prelude.{ℕ, Bool, false, List, None, Option, Some, drop, nat_eq}
use Rattle.go_board.specs.declared.colour.Colour.{Colour}
use Rattle.go_board.specs.declared.point.Point.{Point}
use Rattle.go_board.specs.Grids.{chain_liberties, chain_stones}
use Rattle.go_board.specs.Packs.{colour_coded}
use Rattle.go_board.specs.PointSets.{points_from}
use Rattle.go_chains.specs.Boards.{BoardValue, shown}
use Rattle.go_chains.specs.Cells.{code_at, label_of}
use Rattle.go_chains.specs.declared.chain_points.Progress.{Progress}
use Rattle.go_chains.specs.declared.chain_points.Progress.TheVariants.{Fresh, FirstGiven, Walking}
use Rattle.go_chains.specs.declared.chain_points.Part.{Part}
use Rattle.go_chains.specs.declared.chain_points.Part.TheVariants.{Stones, Liberties}

-- the points of this part of the chain of the stone on p
abbrev pub points_of : BoardValue → Part → Point → List Point
points_of b Stones p = chain_stones (shown b) p
points_of b Liberties p = chain_liberties (shown b) p

-- the points of this part that are to come: all, all but the first, or those in a set from number k on
abbrev pub to_come : BoardValue → Part → Point → List ℕ → Progress → List Point
to_come b part p set Fresh = points_of b part p
to_come b part p set FirstGiven = drop 1 (points_of b part p)
to_come b part p set (Walking k) = points_from b.lines set k

-- a point of this colour and label is a stone with label l
abbrev pub is_labelled : Option Colour → ℕ → ℕ → Bool
is_labelled None label l = false
is_labelled (Some c) label l = nat_eq l label

-- q holds a stone with label l
abbrev pub has_label : List ℕ → ℕ → ℕ → Bool
has_label cells l q = is_labelled (colour_coded (code_at cells q)) (label_of cells q) l
