use Rattle.std.proofs.Common.{◌≡◌, ◌∙◌, ◌∷◌, ◌++◌, false, drop, sym, ap, append_assoc}
use Rattle.std.specs.List.{list_any}
use Rattle.goref_lines.specs.Kept.{Kept, is_hash, kept}
use Rattle.goref_lines.proofs.Pieces.{kept_from_hash, kept_in_comment, none_found, one_found}
use Rattle.goref_lines.proofs.line.Line.skip.Goals as goal

pub returns-then-self : goal.returns-then-self
returns-then-self c = λ line is. kept_in_comment line c.args.bytes.now c.args.self.now is
    (ap (λ (k : Kept). k.has_comment) (sym c.self.view_is) ∙ c.if-self.true)

pub skip_before_comment-requires-clause-bytes : goal.skip_before_comment-requires-clause-bytes
skip_before_comment-requires-clause-bytes c =
    ap (list_any is_hash) c.split_at.ensures.front
    ∙ (one_found c.args.bytes.now c.in-Some.place c.in-Some.ensures).before

pub skip_before_comment-requires-in-None-clause-bytes : goal.skip_before_comment-requires-in-None-clause-bytes
skip_before_comment-requires-in-None-clause-bytes c = none_found c.args.bytes.now c.in-None.ensures

pub returns-in-Some : goal.returns-in-Some
returns-in-Some c = λ line is.
    let bytes = c.args.bytes.now in
    let found = one_found bytes c.in-Some.place c.in-Some.ensures in
    let prefix = c.split_at.result.0.now in
    let k = c.self-in-Some.inside in
    let plain : Kept = record {
      text = k.text.items;
      is_long = k.is_long;
      has_comment = k.has_comment;
      has_space =
          k.has_space;
    } in
    let none : plain.has_comment ≡ false =
    ap (λ (x : Kept). x.has_comment) c.self-in-Some.view_is ∙ c.skip_before_comment.ensures.no_comment
    ∙ ap (λ (x : Kept). x.has_comment) (sym c.self.view_is) ∙ c.if-self.false in
    kept_from_hash (line ++ prefix) (drop 1 (drop c.in-Some.place bytes)) plain
    (c.self-in-Some.view_is ∙ c.skip_before_comment.ensures.line line is) none
    ∙ ap kept (append_assoc line prefix (35 ∷ drop 1 (drop c.in-Some.place bytes)))
    ∙ ap (λ t. kept (line ++ (t ++ 35 ∷ drop 1 (drop c.in-Some.place bytes)))) c.split_at.ensures.front
    ∙ ap (λ t. kept (line ++ t)) (sym found.whole)
