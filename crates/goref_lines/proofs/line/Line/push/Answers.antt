use Rattle.std.proofs.Common.{◌∙◌, sym, ap, not, Bool}
use Rattle.goref_lines.specs.Kept.{Kept}
use Rattle.goref_lines.proofs.Pushes.{kept_comment, kept_control, kept_hash, kept_space, kept_byte}
use Rattle.goref_lines.proofs.line.Line.push.Goals as goal

pub returns-then-self : goal.returns-then-self
returns-then-self c = λ line is. sym c.self.view_is
    ∙ kept_comment line c.args.byte _ (c.self.view_is ∙ is) c.if-self.true

pub returns-then-is_control : goal.returns-then-is_control
returns-then-is_control c = λ line is.
    kept_control line c.args.byte _ is (sym c.is_control.ensures ∙ c.if-is_control.true)

pub returns-then-byte-eq35 : goal.returns-then-byte-eq35
returns-then-byte-eq35 c = λ line is.
    kept_hash line c.args.byte _ (c.self.view_is ∙ is) c.if-self.false c.if-byte-eq35.true

pub returns-then-is_blank : goal.returns-then-is_blank
returns-then-is_blank c = λ line is.
    let with_space : Bool → Kept = λ s.
    record {
      text = c.self.inside.text.items;
      is_long = c.self.inside.is_long;
      has_comment =
          c.self.inside.has_comment;
      has_space = s;
    } in
    ap (λ e. with_space (not e)) c.is_empty.ensures
    ∙ kept_space line c.args.byte _ (c.self.view_is ∙ is) c.if-self.false
    (sym c.is_control.ensures ∙ c.if-is_control.false)
    c.if-byte-eq35.false (sym c.is_blank.ensures ∙ c.if-is_blank.true)

pub returns : goal.returns
returns c = λ line is.
    kept_byte line c.args.byte _ (c.self.view_is ∙ is) c.append_to_words.new.text.items c.append_to_words.new.is_long
    c.if-self.false (sym c.is_control.ensures ∙ c.if-is_control.false) c.if-byte-eq35.false
    (sym c.is_blank.ensures ∙ c.if-is_blank.false)
    c.append_to_words.ensures
