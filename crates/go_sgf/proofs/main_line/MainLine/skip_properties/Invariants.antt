use Rattle.std.proofs.Common.{◌≤◌, ℕ, List, length}
use Rattle.go_sgf.specs.MainLine.{IsLeft}
use Rattle.go_sgf.specs.Record.{Property}
use Rattle.go_sgf.proofs.main_line.MainLine.skip_properties.Given as goal

abbrev pub invariant-loop : goal.invariant-loop
invariant-loop l = record {
  onward : length l.self ≤ length l.fn.self;
  line : (values : List (List ℕ)) (properties : List Property) (nodes : List (List Property)) →
      IsLeft l.fn.self values properties nodes →
      (left : List (List ℕ)) × (later : List Property) × IsLeft l.self left later nodes;
}

abbrev pub decreases-loop : goal.decreases-loop
decreases-loop l = length l.self
