use Rattle.std.proofs.Common.{◌≡◌, ◌+◌, ◌-◌, ◌++◌, length, drop, take}
use Rattle.go_chains.specs.Rewound.{rewound, undone}
use Rattle.go_chains.proofs.log.put_back_changes.Given as goal

abbrev pub invariant-loop : goal.invariant-loop
invariant-loop g l = record {
  changes : l.changes.items ≡ take (length l.initial.changes.items - l.counter) l.initial.changes.items;
  cells : l.cells.numbers ≡ rewound l.initial.cells.numbers
      (drop (length l.initial.changes.items - l.counter) l.initial.changes.items);
  traced : l.cells.trace ≡ l.initial.cells.trace
      ++ undone l.initial.cells.numbers (drop (length l.initial.changes.items - l.counter) l.initial.changes.items);
  meter : l.meter ≡ l.initial.meter + l.counter;
}
