use Rattle.std.proofs.Common.{◌++◌, ◌∙◌, ap, sym, take}
use Rattle.std.specs.List.{list_any}
use Rattle.std.proofs.lemmas.List.{take-append-drop}
use Rattle.goref_lines.specs.declared.gaps.TheConstants.{BLOCK}
use Rattle.goref_lines.specs.inner.Prefixes.{is_blank_byte}
use Rattle.goref_lines.proofs.Pieces.{blank_after_controls}
use Rattle.goref_lines.proofs.gaps.after_controls.Goals as goal

pub returns-then-are_controls-clause-same : goal.returns-then-are_controls-clause-same
returns-then-are_controls-clause-same c =
    let bytes = c.args.bytes.now in
    let more = c.split_at.result.1.now in
    blank_after_controls c.split_at.result.0.now more (sym c.are_controls.ensures ∙ c.if-are_controls.true)
    ∙ ap (list_any is_blank_byte)
    (ap (λ prefix. prefix ++ more) c.split_at.ensures.front
    ∙ ap (λ back. take BLOCK bytes ++ back) c.split_at.ensures.back ∙ take-append-drop BLOCK bytes)
