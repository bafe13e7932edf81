use Rattle.std.proofs.Common.{◌∷◌, ◌++◌, [], refl}
use Rattle.go_board.specs.lemmas.Writing.{writes_nothing, writes_writes}
use Rattle.go_sgf.specs.inner.Tidied.{Outside, tidied_from}
use Rattle.go_sgf.proofs.Tidied.{all_written, none_written, one_written}
use Rattle.go_sgf.proofs.writer.put_trees.Goals as goal

pub loop-inside-init : goal.loop-inside-init
loop-inside-init g c = (
  [],
  writes_nothing g.W.Sink c.args.pen.now,
  none_written c.args.source.now c.from_first_tree-rest.result.now c.from_first_tree-rest.ensures,
)

pub loop-inside-preserved : goal.loop-inside-preserved
loop-inside-preserved g c =
    let w = c.loop-inside.invariant in
    let b = c.put_tree-rest.ensures in
    let text = tidied_from Outside 1 c.in-Some.inside.now in (
      w.0 ++ ((40 ∷ text) ++ (10 ∷ [])),
      writes_writes w.1 (writes_writes (writes_writes c.put.ensures b.written) c.put-in-Some.ensures),
      λ x s.
          one_written x w.0 c.loop-inside.rest.now c.in-Some.inside.now text c.put_tree-rest.result.now (w.2 x s)
          c.in-Some.ensures.begins c.in-Some.ensures.stripped refl
          b.rest,
    )

pub returns : goal.returns
returns g c =
    let w = c.loop-inside.invariant in
    (w.0, w.1, λ x s. all_written x w.0 c.loop-inside.rest.now (w.2 x s) c.in_default.ensures.other)
