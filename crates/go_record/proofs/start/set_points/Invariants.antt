use Rattle.std.proofs.Common.{◌≡◌, ◌≤◌, ℕ, List, length}
use Rattle.go_sgf.specs.MainLine.{IsLeft}
use Rattle.go_sgf.specs.Record.{Property}
use Rattle.go_record.proofs.Setting.{SetSoFar}
use Rattle.go_record.proofs.start.set_points.Given as goal

abbrev pub invariant-loop-value : goal.invariant-loop-value
invariant-loop-value l = record {
  lines : l.grid.lines ≡ l.fn.grid.lines;
  onward : length l.cursor ≤ length l.fn.cursor;
  set : (values : List (List ℕ)) (later : List Property) (nodes : List (List Property)) →
      IsLeft l.fn.cursor values later nodes →
      (remaining : List (List ℕ)) × IsLeft l.cursor remaining later nodes
      × SetSoFar l.fn.grid.lines l.colour l.fn.grid.colours values remaining l.grid.colours;
}

abbrev pub decreases-loop-value : goal.decreases-loop-value
decreases-loop-value l = length l.cursor
