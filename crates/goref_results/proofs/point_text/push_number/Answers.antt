use Rattle.std.proofs.Common.{◌∙◌, ◌++◌, ◌∷◌, [], append_assoc, ap, refl, sym}
use Rattle.goref_results.proofs.RowNumbers.{has_one, has_three, has_two}
use Rattle.goref_results.proofs.point_text.push_number.Goals as goal
use Rattle.goref_results.proofs.point_text.push_number.Goals.{then-number-ge100, else-number-ge100+then-number-ge10, else-number-ge100+else-number-ge10}

pub returns : goal.returns
returns c =
    let old = c.args.text.now.items in
    let n = c.args.number in
    let last = c.digit-2.result in
    elim c.if-number-ge100.branch [
      | then-number-ge100 w ↦ (
          let first = w.digit.result in
          let second = w.digit-then-number-ge100.result in
          rw (w.text-is, w.push-then-number-ge100.ensures.items, w.push.ensures.items) at c.push-2.ensures.items
          ∙ append_assoc (old ++ first ∷ []) (second ∷ []) (last ∷ [])
          ∙ append_assoc old (first ∷ []) (second ∷ last ∷ [])
          ∙ ap (λ ds. old ++ ds) ((rw (w.digit.ensures, w.digit-then-number-ge100.ensures, c.digit-2.ensures) refl)
          ∙ sym (has_three n w.if-number-ge100.true c.requires.small)))
      | else-number-ge100+then-number-ge10 w ↦ (
          let first = w.digit-then-number-ge10.result in
          rw (w.text-is, w.push-then-number-ge10.ensures.items) at c.push-2.ensures.items
          ∙ append_assoc old (first ∷ []) (last ∷ [])
          ∙ ap (λ ds. old ++ ds) ((rw (w.digit-then-number-ge10.ensures, c.digit-2.ensures) refl)
          ∙ sym (has_two n w.if-number-ge10.true w.if-number-ge100.false)))
      | else-number-ge100+else-number-ge10 w ↦ (
          rw (w.text-is) at c.push-2.ensures.items
          ∙ ap (λ ds. old ++ ds) ((rw (c.digit-2.ensures) refl) ∙ sym (has_one n w.if-number-ge10.false)))
    ]
