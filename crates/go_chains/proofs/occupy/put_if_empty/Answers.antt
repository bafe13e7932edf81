use Rattle.std.proofs.Common.{◌≡◌, ◌∙◌, inl, inr, refl, sym}
use Rattle.go_chains.specs.Cells.{code_at}
use Rattle.go_chains.proofs.occupy.put_if_empty.Goals as goal

pub returns-then-get-eq0-clause-marked : goal.returns-then-get-eq0-clause-marked
returns-then-get-eq0-clause-marked g c =
    let put = c.put.ensures in
    let empty : code_at c.args.cells.now.numbers c.args.near ≡ 0 = sym c.get.ensures.value ∙ c.if-get-eq0.true in
    record {
      kept = λ q q_in had. (put q).1 (inr had);
      given = λ _. (put c.args.near).1 (inl refl);
      was = λ q q_in has. elim ((put q).0 has) [ inl at ↦ inr (at, empty) | inr had ↦ inl had ];
    }
