use Rattle.std.proofs.Common.{[], Some, Ok, Err, refl}
use Rattle.goref_c.proofs.Sending.{cut_at, of_shelf, over_at}
use Rattle.goref_c.proofs.held.Held.send.Goals as goal
use Rattle.goref_c.specs.Files.{bytes_of}
use Rattle.goref_session.specs.declared.flow.Flow.TheVariants.{Quit}

pub returns-in-Ok-Quit : goal.returns-in-Ok-Quit
returns-in-Ok-Quit c =
    let shelf = c.answer_lines.new.shelf in
    over_at (bytes_of c.args.file) c.args.text.now c.args.self.now _ _ c.self.view_is c.if-self.false (
      shelf.asked,
      of_shelf (Ok Quit) _ c.answer_lines.new.session _ (bytes_of c.args.file) shelf.file shelf.asked (Some []) _
          (rw (c.new-shelf.ensures, c.clear.ensures, c.in-Ok-Quit.field-0-is) at c.in-Ok-Quit.ensures.answered),
    )
    refl

pub returns : goal.returns
returns c =
    let shelf = c.answer_lines.new.shelf in
    cut_at (bytes_of c.args.file) c.args.text.now c.args.self.now _ _ c.self.view_is c.if-self.false c.in-Err.field-0 (
      shelf.asked,
      of_shelf (Err c.in-Err.field-0) _ _ _ (bytes_of c.args.file) shelf.file shelf.asked (Some []) _
          (rw (c.new-shelf.ensures, c.clear.ensures) at c.in-Err.ensures.answered),
    )
    c.if-self.false
