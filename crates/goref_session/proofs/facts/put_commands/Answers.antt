use Rattle.std.proofs.Common.{◌∙◌, ◌∷◌, ◌++◌, [], ap, append_assoc, refl, sym}
use Rattle.go_board.specs.lemmas.Writing.{writes_writes, writes_nothing}
use Rattle.goref_session.proofs.Named.{listed_more}
use Rattle.goref_session.proofs.facts.put_commands.Goals as goal

pub loop-name-init : goal.loop-name-init
loop-name-init g c = ([], writes_nothing g.W.Sink c.args.pen.now, refl)

pub loop-name-preserved : goal.loop-name-preserved
loop-name-preserved g c =
    let i = c.loop-name.invariant in (
      i.0 ++ (c.loop-name.before ∷ _),
      writes_writes i.1 (writes_writes c.put.ensures c.put-in-loop-name.ensures),
      append_assoc i.0 _ _ ∙ ap (λ text. i.0 ++ text)
          (sym (listed_more c.loop-name.before _ c.loop-name.name-index _ c.loop-name-test.true)) ∙ i.2,
    )
