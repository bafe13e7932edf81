use Rattle.std.proofs.Common.{◌≡◌, ◌∙◌, ◌++◌, ◌∷◌, [], length, ap, sym, arith, option_to_list}
use Rattle.std.proofs.lemmas.List.{same_from_push}
use Rattle.go_chains.specs.Rewound.{plays_of, rewound, undone}
use Rattle.go_chains.proofs.writes.Rewinding.{is_last}
use Rattle.go_chains.proofs.log.Log.put_back.Goals as goal

pub put_back_changes-requires-clause-enough : goal.put_back_changes-requires-clause-enough
put_back_changes-requires-clause-enough g c =
    let split : c.self.inside.lengths.items ≡ c.pop.new.self.items ++ c.in-Some.count ∷ [] = c.pop.ensures.items
    ∙ ap (λ o. c.pop.new.self.items ++ option_to_list o) c.in-Some.is in
    (is_last c.pop.new.self.items c.self.inside.lengths.items c.in-Some.count c.self.inside.changes.items
    c.args.self.now split c.self.invariant c.self.view_is).enough

pub put_back_changes-requires-clause-names : goal.put_back_changes-requires-clause-names
put_back_changes-requires-clause-names g c =
    let split : c.self.inside.lengths.items ≡ c.pop.new.self.items ++ c.in-Some.count ∷ [] = c.pop.ensures.items
    ∙ ap (λ o. c.pop.new.self.items ++ option_to_list o) c.in-Some.is in
    let last = is_last c.pop.new.self.items c.self.inside.lengths.items c.in-Some.count c.self.inside.changes.items
    c.args.self.now split c.self.invariant c.self.view_is in
    c.requires.names _ _ last.is

pub invariant_of-self : goal.invariant_of-self
invariant_of-self g c =
    let split : c.self.inside.lengths.items ≡ c.pop.new.self.items ++ c.in-Some.count ∷ [] = c.pop.ensures.items
    ∙ ap (λ o. c.pop.new.self.items ++ option_to_list o) c.in-Some.is in
    let last = is_last c.pop.new.self.items c.self.inside.lengths.items c.in-Some.count c.self.inside.changes.items
    c.args.self.now split c.self.invariant c.self.view_is in
    last.whole ∙ sym (ap length c.put_back_changes.ensures.changes)

pub returns-in-Some : goal.returns-in-Some
returns-in-Some g c earlier changes is =
    let split : c.self.inside.lengths.items ≡ c.pop.new.self.items ++ c.in-Some.count ∷ [] = c.pop.ensures.items
    ∙ ap (λ o. c.pop.new.self.items ++ option_to_list o) c.in-Some.is in
    let last = is_last c.pop.new.self.items c.self.inside.lengths.items c.in-Some.count c.self.inside.changes.items
    c.args.self.now split c.self.invariant c.self.view_is in
    let same = same_from_push _ _ _ _ (sym last.is ∙ is) in
    record {
      cells = c.put_back_changes.ensures.cells ∙ ap (rewound c.args.cells.now.numbers) same.1;
      traced = c.put_back_changes.ensures.traced
          ∙ ap (λ l. c.args.cells.now.trace ++ undone c.args.cells.now.numbers l) same.1;
      dropped = ap (plays_of c.pop.new.self.items) c.put_back_changes.ensures.changes ∙ same.0;
      count = omega (arith, ap length same.1, last.size);
    }
