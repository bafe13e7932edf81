use Rattle.std.proofs.Common.{◌∙◌, ap, inl, inr, length, nat_eq, sym, Bool}
use Rattle.goref_lines.specs.Kept.{Kept}
use Rattle.goref_lines.proofs.Pieces.{kept_gap_after_word, kept_gap_same}
use Rattle.goref_lines.proofs.line.Line.push_gap.Goals as goal
use Rattle.goref_lines.proofs.line.Line.push_gap.Goals.{else-not-self-via-then-not-self+else-not-is_empty, else-not-self-via-else-not-self}

pub returns-then-not-is_empty : goal.returns-then-not-is_empty
returns-then-not-is_empty c = λ line is.
    let k = c.self.inside in
    let with_space : Bool → Kept = λ s.
    record { text = k.text.items; is_long = k.is_long; has_comment = k.has_comment; has_space = s } in
    ap with_space c.has_blank-self-inside.ensures
    ∙ kept_gap_after_word c.args.gap.now line (with_space k.has_space) (c.self.view_is ∙ is)
    (ap (λ (x : Kept). x.has_comment) c.self.view_is ∙ c.requires.no_comment) c.requires.gap
    c.if-not-self.true (sym c.is_empty.ensures ∙ c.if-not-is_empty.true)

pub returns-else-not-self : goal.returns-else-not-self
returns-else-not-self c = λ line is.
    kept_gap_same c.args.gap.now line c.args.self.now is c.requires.no_comment c.requires.gap
    (elim c.else-not-self.branch [
      | else-not-self-via-then-not-self+else-not-is_empty w ↦
          inr (ap (λ (k : Kept). nat_eq (length k.text) 0) (sym c.self.view_is) ∙ sym w.is_empty.ensures
          ∙ w.if-not-is_empty.false)
      | else-not-self-via-else-not-self w ↦
          inl (ap (λ (k : Kept). k.has_space) (sym c.self.view_is) ∙ w.if-not-self.false)
    ])
