use Rattle.std.proofs.Common.{ℕ, List, ◌++◌, ◌∷◌, [], refl, sym, ap, ◌∙◌, Err, append_assoc}
use Rattle.std.proofs.lemmas.List.{append-nil}
use Rattle.std.specs.Borrow.{Bor}
use Rattle.go_sgf.specs.declared.limits.TheConstants.{MAX_DEPTH}
use Rattle.go_sgf.specs.Record.{values_of}
use Rattle.go_sgf.proofs.Passing.{map-push, refuses, value_endless, values_first, values_more, values_passed, values_shorter, values_stop}
use Rattle.go_sgf.proofs.reader.read_values.Goals as goal

pub returns-then-not-begins_with-clause-place : goal.returns-then-not-begins_with-clause-place
returns-then-not-begins_with-clause-place g c = λ d h. refuses _ _ _
    (values_stop MAX_DEPTH d h c.args.bytes.now c.after_space-rest.result.now c.requires c.after_space-rest.ensures
    (sym c.if-not-begins_with.ensures) ∙ ap Err (sym c.unexpected.ensures))

pub loop-inside-init : goal.loop-inside-init
loop-inside-init g c = (
  [],
  λ _. sym (append-nil _),
  values_first c.args.bytes.now c.after_space-rest.result.now c.requires c.after_space-rest.ensures
      (sym c.if-not-begins_with.ensures),
)

pub returns-in_default-value-clause-place : goal.returns-in_default-value-clause-place
returns-in_default-value-clause-place g c = λ d h.
    c.loop-inside.invariant.2.place d h
    ∙ value_endless MAX_DEPTH d h c.loop-inside.rest.now c.in-Some.inside.now c.in-Some.ensures.stripped
    (c.in_default-value.ensures.none d h)

pub loop-inside-smaller : goal.loop-inside-smaller
loop-inside-smaller g c =
    rw c.after_space-rest-in-Some.ensures
    (values_shorter c.loop-inside.rest.now c.in-Some-value.one.now c.in-Some.inside.now c.in-Some-value.more.now
    c.in-Some.ensures.stripped c.in-Some-value.ensures.whole)

pub loop-inside-preserved : goal.loop-inside-preserved
loop-inside-preserved g c =
    let vs = c.loop-inside.invariant.0 in
    let one = c.in-Some-value.one.now in (
      vs ++ one ∷ [],
      λ keeps.
          map-push (λ (v : Bor (List ℕ)). v.now) c.loop-inside.list c.add.new.list c.in-Some-value.one
          (c.in_ok-add.ensures.added keeps)
          ∙ ap (λ us. us ++ one ∷ []) (c.loop-inside.invariant.1 keeps)
          ∙ append_assoc (values_of c.args.list.now) vs (one ∷ []),
      rw c.after_space-rest-in-Some.ensures
          (values_more c.args.bytes.now vs (vs ++ one ∷ []) c.loop-inside.rest.now one c.in-Some.inside.now
          c.in-Some-value.more.now c.loop-inside.invariant.2 refl
          c.in-Some.ensures.stripped c.in-Some-value.ensures.whole c.in-Some-value.ensures.inside),
    )

pub returns-clause-place : goal.returns-clause-place
returns-clause-place g c =
    values_passed c.args.bytes.now c.loop-inside.invariant.0 c.loop-inside.rest.now c.loop-inside.invariant.2
    c.in_default.ensures.other
