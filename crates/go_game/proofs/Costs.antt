-- What the costs of a turn say of counts and writes alone.
use Rattle.std.proofs.Common.{arith, ◌≡◌, ◌≤◌, ◌+◌, ◌*◌, ℕ, Ok, Err, ap, subst}
use Rattle.std.proofs.lemmas.Result.{on_err_weaker, on_ok_weaker}
use Rattle.go_board.specs.declared.vertex.Vertex.{Vertex}
use Rattle.go_board.specs.declared.vertex.Vertex.TheVariants.{Pass}
use Rattle.go_game.specs.Counts.{most_for, spare_for}
use Rattle.go_game.specs.Laws.{CostsOfATurn, OfTurns}
use Rattle.go_game.specs.Standings.{GameValue}

within : (new spare most : ℕ) → new + spare ≤ most → new ≤ most
within new spare most few = omega (arith, few)

by_pass : OfTurns (λ made result old new. made.vertex ≡ Pass → new.count ≡ old.count)
by_pass made (Ok taken) old new costs pass =
    let few = subst (λ (v : Vertex). let f : Type 0 =
    new.count + spare_for v ≤ old.count + 3 * most_for old.standing made.colour v in f) pass costs.count in
    omega (arith, few, costs.logged.ticked)
by_pass made (Err error) old new costs pass =
    let few = subst (λ (v : Vertex). let f : Type 0 =
    new.count + spare_for v ≤ old.count + 4 * most_for old.standing made.colour v in f) pass costs.refused in
    omega (arith, few, costs.err.onward)

pub costs : CostsOfATurn
costs = record {
  count = λ made result old new costs. on_ok_weaker result (within new.count (spare_for made.vertex) _) costs.count;
  refused = λ made result old new costs.
      on_err_weaker result (within new.count (spare_for made.vertex) _) costs.refused;
  uncounted = λ made result old new costs which. ap (λ (v : GameValue). v.count) (costs.idle which);
  unwritten = λ made result old new costs which. ap (λ (v : GameValue). v.trace) (costs.idle which);
  pass = by_pass;
}
