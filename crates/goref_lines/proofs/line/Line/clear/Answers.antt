use Rattle.std.proofs.Common.{rules}
use Rattle.goref_lines.specs.Kept.{kept}
use Rattle.goref_lines.proofs.line.Line.clear.Goals as goal

pub returns : goal.returns
unfolding kept
returns c = search rules
