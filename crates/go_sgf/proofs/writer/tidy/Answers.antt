use Rattle.std.proofs.Common.{ℕ, List, Option, refl, rules, subst, sym}
use Rattle.go_board.specs.Device.{Sent}
use Rattle.go_board.specs.lemmas.Writing.{finished_pen}
use Rattle.go_sgf.specs.Spelling.{Spells, canonical}
use Rattle.go_sgf.proofs.writer.tidy.Goals as goal

pub returns-clause-sent : goal.returns-clause-sent
returns-clause-sent g c =
    let s = c.text.ensures.spelled in
    let w = c.put_trees.ensures in
    let taken = g.W.Sink.taken in
    let text = w.2 s.0 (subst (λ (b : List ℕ). Spells b s.0) (sym c.text.ensures.text) s.1) in
    let told = finished_pen (rw text at w.1) c.new-pen.ensures.fresh c.new-pen.ensures.writer refl c.finish.result
    c.finish.ensures.value in (
      s.0,
      s.1,
      subst (λ (t : Option (List ℕ)). Sent c.finish.result (taken c.args.writer.now) t (canonical s.0))
          (search rules) told.0,
    )

pub returns-clause-failures : goal.returns-clause-failures
returns-clause-failures g c =
    (finished_pen c.put_trees.ensures.1 c.new-pen.ensures.fresh c.new-pen.ensures.writer (search rules) c.finish.result
    c.finish.ensures.value).1
