use Rattle.std.proofs.Common.{◌≡◌, ◌++◌}
use Rattle.goref_lines.specs.Kept.{kept}
use Rattle.goref.specs.Lines.{unfinished_line}
use Rattle.goref.proofs.Progressing.{proceeds}
use Rattle.goref.proofs.runs.end_line.Goals as goal

pub returns-clause-proceeds : goal.returns-clause-proceeds
returns-clause-proceeds g c = λ start read given taken p.
    let now : c.extend.new.self ≡ kept (unfinished_line read ++ c.args.part.now) =
    c.extend.ensures (unfinished_line read) p.keeps in
    rw c.clear.ensures (proceeds p c.args.part.now c.requires c.answer_line-result.result
    (rw now at c.answer_line-result.ensures.responds))
