use Rattle.std.proofs.Common.{◌≡◌, ◌-◌, ◌∙◌, ◌++◌, ◌∷◌, ◌+◌, [], drop, length, slice_set, ap, sym, arith, option_to_list}
use Rattle.std.proofs.lemmas.List.{length-take-le}
use Rattle.go_chains.specs.declared.cells.TheConstants.{CELLS}
use Rattle.go_chains.specs.Cells.{CellsValue}
use Rattle.go_chains.specs.Rewound.{rewound}
use Rattle.go_chains.proofs.writes.Rewinding.{popped, popped_names, traced_more}
use Rattle.go_chains.proofs.log.put_back_changes.Goals as goal
use Rattle.go_chains.proofs.log.put_back_changes.Goals.{in-Some, in_default}

pub set-requires : goal.set-requires
set-requires g c =
    let split : c.loop.changes.items ≡ c.pop.new.self.items ++ c.change-change.result ∷ [] = c.pop.ensures.items
    ∙ ap (λ o. c.pop.new.self.items ++ option_to_list o) c.in-Some.is
    ∙ ap (λ x. c.pop.new.self.items ++ x ∷ []) (sym c.change-change.ensures) in
    let p = popped c.args.changes.now.items c.loop.changes.items c.pop.new.self.items c.change-change.result
    c.loop.counter (omega arith) c.loop.invariant.changes split in
    popped_names CELLS c.args.changes.now.items c.pop.new.self.items c.change-change.result c.loop.counter c.args.count
    (omega arith) c.requires.enough p c.requires.names

pub loop-preserved : goal.loop-preserved
loop-preserved g c = elim c.match-pop.branch [
  | in-Some w ↦
      let split : c.loop.changes.items ≡ c.pop.new.self.items ++ w.change-change.result ∷ [] = c.pop.ensures.items
      ∙ ap (λ o. c.pop.new.self.items ++ option_to_list o) w.in-Some.is
      ∙ ap (λ x. c.pop.new.self.items ++ x ∷ []) (sym w.change-change.ensures) in
      let p = popped c.args.changes.now.items c.loop.changes.items c.pop.new.self.items w.change-change.result
      c.loop.counter (omega arith) c.loop.invariant.changes split in
      record {
        changes = p.rest_is;
        cells = ap (λ (v : CellsValue). v.numbers) w.cells-is ∙ w.set.ensures.value
            ∙ ap (λ cells. slice_set cells w.change-change.result.place w.change-change.result.old)
            c.loop.invariant.cells
            ∙ sym (ap (λ changes. rewound c.args.cells.now.numbers changes) p.dropped);
        traced = traced_more c.args.cells.now.trace c.loop.cells.trace _ c.args.cells.now.numbers c.loop.cells.numbers
            w.change-change.result
            (drop (length c.args.changes.now.items - c.loop.counter) c.args.changes.now.items)
            (drop (length c.args.changes.now.items - (c.loop.counter + 1)) c.args.changes.now.items)
            c.loop.invariant.traced c.loop.invariant.cells p.dropped
            (ap (λ (v : CellsValue). v.trace) w.cells-is ∙ w.set.ensures.traced);
        meter = omega arith;
      }
  | in_default w ↦ absurd (
      let none : c.loop.changes.len ≡ 0 = w.in_default.ensures.cases.0 in
      let size : c.loop.changes.len ≡ length c.loop.changes.items = c.loop.changes.ok.0 in
      omega (
        arith,
        ap length c.loop.invariant.changes,
        length-take-le (length c.args.changes.now.items - c.loop.counter) c.args.changes.now.items (omega arith),
      ))
]
