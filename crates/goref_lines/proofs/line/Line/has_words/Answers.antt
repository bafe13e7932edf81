use Rattle.std.proofs.Common.{rules}
use Rattle.goref_lines.proofs.line.Line.has_words.Goals as goal

pub returns : goal.returns
returns c = search rules
