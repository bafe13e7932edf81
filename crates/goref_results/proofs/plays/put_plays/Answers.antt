use Rattle.std.proofs.Common.{◌∙◌, ◌++◌, [], false, ap, append_assoc, subst, sym}
use Rattle.std.specs.Prelude.{filter, slice_index_or}
use Rattle.std.specs.List.{flat_map}
use Rattle.std.proofs.lemmas.List.{append-nil}
use Rattle.go_board.specs.Pens.{Writes}
use Rattle.go_board.specs.Reaching.{points}
use Rattle.go_board.specs.lemmas.Writing.{writes_nothing, writes_writes}
use Rattle.goref_results.specs.inner.Texts.{spaced_point}
use Rattle.goref_results.proofs.Listing.{spaced_points}
use Rattle.goref_results.proofs.Spaced.{numbers_spaced}
use Rattle.goref_results.proofs.plays.put_plays.Goals as goal

pub loop-point-preserved : goal.loop-point-preserved
loop-point-preserved g c =
    let i = c.loop-point.invariant in
    let text = spaced_point c.in-Some.point in (
      i.0 ++ text,
      writes_writes i.1 c.put_spaced.ensures,
      append_assoc i.0 text (flat_map spaced_point c.next.new.self)
          ∙ ap (λ ps. i.0 ++ flat_map spaced_point ps) (sym c.in-Some.ensures.steps) ∙ i.2,
    )

pub loop-point-init : goal.loop-point-init
loop-point-init g c = (
  [],
  writes_nothing g.W.Sink c.args.pen.now,
  ap (flat_map spaced_point) (c.into_iter-point-iterator.ensures.into_iter_gives ∙ c.points-point-items.ensures)
      ∙ spaced_points c.args.size (filter (λ p. slice_index_or c.args.plays.now p false) (points c.args.size)),
)

pub returns : goal.returns
returns g c =
    let i = c.loop-point.invariant in
    let marked = filter (λ p. slice_index_or c.args.plays.now p false) (points c.args.size) in
    subst (Writes g.W.Sink c.args.pen.now c.loop-point.pen)
    (sym (append-nil i.0) ∙ ap (λ ps. i.0 ++ flat_map spaced_point ps) (sym c.in-None.ensures.steps.0) ∙ i.2
    ∙ numbers_spaced c.args.size marked) i.1
