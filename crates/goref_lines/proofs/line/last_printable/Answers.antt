use Rattle.std.proofs.Common.{◌∙◌, sym, ap}
use Rattle.goref_lines.specs.inner.Prefixes.{last_of}
use Rattle.goref_lines.specs.Kept.{printable}
use Rattle.goref_lines.proofs.Pieces.{last_is}
use Rattle.goref_lines.proofs.line.last_printable.Goals as goal

pub returns-then-not-is_control : goal.returns-then-not-is_control
returns-then-not-is_control c =
    sym (last_is c.in-Some.prefix.now c.in-Some.last.now (sym c.is_control.ensures ∙ c.if-not-is_control.true))
    ∙ ap (λ t. last_of (printable t)) (sym c.in-Some.ensures.cases.0) ∙ c.loop-last.invariant
