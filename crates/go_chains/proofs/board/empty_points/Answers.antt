use Rattle.std.proofs.Common.{arith, ◌∙◌, ◌∷◌, [], ap, inl, inr, length, length-append, slice_index}
use Rattle.std.proofs.lemmas.Bool.{cases_eq}
use Rattle.go_chains.specs.Cells.{code_at}
use Rattle.go_chains.proofs.board.empty_points.Goals as goal

pub loop-number-preserved : goal.loop-number-preserved
loop-number-preserved c = record {
  empty = λ p low. elim (cases_eq p c.loop-number.number) [
    | inl last ↦ ap (code_at c.set.new.self.numbers) last ∙ c.set.ensures.written.at
    | inr before ↦ c.set.ensures.written.others p before ∙ c.loop-number.invariant.empty p (omega (arith, low, before))
  ];
  rest = λ k past. c.set.ensures.written.others k (λ e. omega (arith, past, e))
      ∙ c.loop-number.invariant.rest k (omega (arith, past));
  writes = omega (
    arith,
    ap length c.set.ensures.traced,
    length-append c.loop-number.cells.trace
        (record { place = c.loop-number.number; old = slice_index c.loop-number.cells.numbers c.loop-number.number } ∷
        []),
    c.loop-number.invariant.writes,
  );
}
