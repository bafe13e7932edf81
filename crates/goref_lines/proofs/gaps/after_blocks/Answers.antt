use Rattle.std.proofs.Common.{[], ◌++◌, ◌∙◌, refl, sym, ap, append_assoc}
use Rattle.std.proofs.lemmas.List.Folds.{list_all-append}
use Rattle.goref_lines.specs.inner.Prefixes.{is_gap_byte}
use Rattle.goref_lines.proofs.gaps.after_blocks.Goals as goal

pub loop-more-init : goal.loop-more-init
loop-more-init c = ([], refl, refl)

pub loop-more-preserved : goal.loop-more-preserved
loop-more-preserved c =
    let i = c.loop-more.invariant in
    let next = c.in-Some.ensures.gap in (
      i.0 ++ next.0,
      i.1 ∙ ap (λ t. i.0 ++ t) next.1 ∙ sym (append_assoc i.0 next.0 c.in-Some.more.now),
      list_all-append is_gap_byte i.0 next.0 ∙ rw (i.2, next.2) refl,
    )
