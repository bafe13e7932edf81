use Rattle.std.proofs.Common.{◌∙◌, ap}
use Rattle.goref_lines.specs.Kept.{Kept}
use Rattle.goref_lines.proofs.Pieces.{kept_words}
use Rattle.goref_lines.proofs.line.Line.push_words.Goals as goal

pub returns : goal.returns
returns c = λ line is.
    kept_words line c.args.words.now _ (c.self.view_is ∙ is) c.append_to_words.new.text.items
    c.append_to_words.new.is_long
    (ap (λ (k : Kept). k.has_comment) c.self.view_is ∙ c.requires.no_comment) c.requires.words c.append_to_words.ensures
