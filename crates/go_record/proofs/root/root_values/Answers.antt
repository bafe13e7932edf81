use Rattle.std.proofs.Common.{[], List, refl, subst}
use Rattle.go_sgf.specs.MainLine.{main_line}
use Rattle.go_sgf.specs.Record.{Property}
use Rattle.go_record.specs.inner.Progress.{AreFoundOf}
use Rattle.go_record.proofs.LineSteps.{first_is, no_first}
use Rattle.go_record.proofs.root.root_values.Goals as goal

pub returns-then-not-next_node : goal.returns-then-not-next_node
returns-then-not-next_node c =
    let of = c.of-cursor.ensures in
    let none = no_first of.0 of.1.fit.trees (c.if-not-next_node.ensures.next [] [] (main_line of.0) of.2).0 in (
      of.0,
      of.1,
      c.values.ensures of.0
          (subst (λ (remaining : List Property). AreFoundOf c.nothing-found.result remaining of.0) none
          (c.nothing-found.ensures of.0)),
    )

pub loop-name-init : goal.loop-name-init
loop-name-init c =
    let of = c.of-cursor.ensures in
    let next = c.if-not-next_node.ensures.next [] [] (main_line of.0) of.2 in
    let first = first_is of.0 next.0 next.1 of.1.fit.trees next.2 in (
      of.0,
      of.1,
      (
        next.0,
        next.1,
        ([], next.3),
        subst (λ (remaining : List Property). AreFoundOf c.nothing-found.result remaining of.0) first
            (c.nothing-found.ensures of.0),
      ),
    )

pub loop-name-preserved : goal.loop-name-preserved
loop-name-preserved c =
    let of = c.loop-name.invariant in
    let i = of.2 in
    let next = c.in-Some.ensures.next i.2.0 i.0 i.1 i.2.1 in (
      of.0,
      of.1,
      (
        next.1,
        i.1,
        c.first_value-value.ensures.cursor next.1 i.1 (next.0.values, next.4),
        c.keep.ensures next.0 next.1 of.0 next.3 (c.first_value-value.ensures.value next.0.values next.1 i.1 next.4)
            (subst (λ (remaining : List Property). AreFoundOf c.loop-name.found remaining of.0) next.2 i.3),
      ),
    )

pub returns-then-is_whole : goal.returns-then-is_whole
returns-then-is_whole c =
    let of = c.loop-name.invariant in
    let i = of.2 in
    let next = c.in-Some.ensures.next i.2.0 i.0 i.1 i.2.1 in
    let kept = c.keep.ensures next.0 next.1 of.0 next.3
    (c.first_value-value.ensures.value next.0.values next.1 i.1 next.4)
    (subst (λ (remaining : List Property). AreFoundOf c.loop-name.found remaining of.0) next.2 i.3) in
    (of.0, of.1, c.values-then-is_whole.ensures of.0 (c.if-is_whole.ensures refl next.1 of.0 kept))

pub returns : goal.returns
returns c =
    let of = c.loop-name.invariant in
    let i = of.2 in
    let end = c.in_default.ensures.next i.2.0 i.0 i.1 i.2.1 in (
      of.0,
      of.1,
      c.values-2.ensures of.0
          (subst (λ (remaining : List Property). AreFoundOf c.loop-name.found remaining of.0) end.0 i.3),
    )
