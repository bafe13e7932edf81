use Rattle.std.proofs.Common.{◌∙◌, ◌++◌, [], ap, append_assoc, sym}
use Rattle.std.specs.List.{flat_map}
use Rattle.go_board.specs.lemmas.Writing.{writes_nothing, writes_writes}
use Rattle.goref_results.specs.inner.Texts.{spaced_point}
use Rattle.goref_results.proofs.chain_lines.put_each.Goals as goal

pub loop-point-preserved : goal.loop-point-preserved
loop-point-preserved g c =
    let i = c.loop-point.invariant in
    let text = spaced_point c.in-Some.point in (
      i.0 ++ text,
      writes_writes i.1 c.put_spaced.ensures,
      append_assoc i.0 text (flat_map spaced_point c.next.new.self)
          ∙ ap (λ ps. i.0 ++ flat_map spaced_point ps) (sym c.in-Some.ensures.steps) ∙ i.2,
    )

pub loop-point-init : goal.loop-point-init
loop-point-init g c = (
  [],
  writes_nothing g.W.Sink c.args.pen.now,
  ap (flat_map spaced_point) c.into_iter-point-iterator.ensures.into_iter_gives,
)
