use Rattle.std.proofs.Common.{◌∙◌, ap, sym}
use Rattle.goref_lines.specs.inner.Prefixes.{space_after}
use Rattle.goref_lines.specs.Kept.{Kept}
use Rattle.goref_lines.proofs.Pieces.{kept_after, no_hash_printed}
use Rattle.goref_lines.proofs.line.Line.skip_before_comment.Goals as goal

pub returns-in-Some-clause-line : goal.returns-in-Some-clause-line
returns-in-Some-clause-line c = λ line is.
    let bytes = c.args.bytes.now in
    let k = c.self.inside in
    let spaced : _ → Kept = λ s. record
    { text = k.text.items; is_long = k.is_long; has_comment = k.has_comment; has_space = s } in
    ap spaced (c.is_blank-self-inside.ensures
    ∙ ap (space_after k.has_space) (sym c.in-Some.is ∙ c.last_printable.ensures))
    ∙ kept_after line bytes (spaced k.has_space) (c.self.view_is ∙ is)
    (ap (λ (x : Kept). x.is_long) c.self.view_is ∙ c.requires.long)
    (ap (λ (x : Kept). x.has_comment) c.self.view_is ∙ c.requires.no_comment) (no_hash_printed bytes c.requires.bytes)

pub returns-in_default-clause-line : goal.returns-in_default-clause-line
returns-in_default-clause-line c = λ line is.
    let bytes = c.args.bytes.now in
    let k = c.args.self.now in
    ap (λ last. record k { has_space = space_after k.has_space last }) (sym c.in_default.is ∙ c.last_printable.ensures)
    ∙ kept_after line bytes k is c.requires.long c.requires.no_comment (no_hash_printed bytes c.requires.bytes)
