use Rattle.std.proofs.Common.{arith, inl, inr, ◌∙◌, ◌++◌, ◌∷◌, [], append_assoc, ap, sym}
use Rattle.std.specs.List.{flat_map}
use Rattle.std.proofs.lemmas.List.{append-nil}
use Rattle.std.proofs.lemmas.Grind.{flat_map-append}
use Rattle.go_board.specs.lemmas.Writing.{writes_nothing, writes_then}
use Rattle.goref_results.specs.inner.Texts.{spaced_point}
use Rattle.goref_results.proofs.SeenChains.{seen_more}
use Rattle.goref_results.proofs.chain_lines.put_stones.Goals as goal

pub loop-at-preserved : goal.loop-at-preserved
loop-at-preserved g c =
    let i = c.loop-at.invariant in
    let at = c.in-Some.at in (
      i.0 ++ at ∷ [],
      append_assoc i.0 (at ∷ []) c.next.new.self ∙ ap (λ ps. i.0 ++ ps) (sym c.in-Some.ensures.steps) ∙ i.1,
      writes_then _ i.2 c.put_spaced.ensures
          (ap (λ t. flat_map spaced_point i.0 ++ t) (sym (append-nil (spaced_point at)))
          ∙ sym (flat_map-append spaced_point i.0 (at ∷ []))),
      seen_more i.0 at c.row_and_column-row.result.0 c.row_and_column-row.result.1 c.args.seen.now c.loop-at.seen
          c.put_place.new.rows c.row_and_column-row.ensures.row c.row_and_column-row.ensures.col i.3
          c.put_place.ensures,
    )

pub loop-at-init : goal.loop-at-init
loop-at-init g c = (
  [],
  c.into_iter-at-iterator.ensures.into_iter_gives,
  writes_nothing g.W.Sink c.args.pen.now,
  λ q.
      (λ had. inr had, λ either. elim either [ inl none ↦ absurd (let low = none.1 in omega arith) | inr had ↦ had ]),
)
