use Rattle.std.proofs.Common.{◌∙◌, ap, length}
use Rattle.std.specs.Prelude.{nat_eq}
use Rattle.go_record.proofs.Blanks.{trimmed_to_none}
use Rattle.go_record.proofs.root.is_blank.Goals as goal

pub returns : goal.returns
returns c =
    c.is_empty.ensures ∙ ap (λ w. nat_eq (length w) 0) c.trim.ensures ∙ trimmed_to_none c.args.value.now
