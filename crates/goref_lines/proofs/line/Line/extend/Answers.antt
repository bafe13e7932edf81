use Rattle.std.proofs.Common.{◌∙◌, ◌++◌, ap, sym, append_assoc}
use Rattle.goref_lines.specs.Kept.{Kept, kept}
use Rattle.goref_lines.proofs.Pieces.{kept_in_comment}
use Rattle.goref_lines.proofs.line.Line.extend.Goals as goal

pub returns-else-not-self : goal.returns-else-not-self
returns-else-not-self c = λ line is.
    let passed = c.loop-rest.invariant line is in
    kept_in_comment (line ++ passed.0) c.loop-rest.rest.now c.loop-rest.self passed.2
    (ap (λ (k : Kept). k.has_comment) (sym c.self-in-loop-rest.view_is) ∙ c.if-not-self.false)
    ∙ ap kept (append_assoc line passed.0 c.loop-rest.rest.now)
    ∙ ap (λ t. kept (line ++ t)) (sym passed.1)
