use Rattle.std.proofs.Common.{[], ◌∷◌, ◌++◌, refl, sym, ap, ◌∙◌, Err, append_assoc}
use Rattle.std.proofs.lemmas.List.{append-nil}
use Rattle.std.proofs.lemmas.Result.{err_from_is_err_and}
use Rattle.go_sgf.specs.declared.limits.TheConstants.{MAX_DEPTH}
use Rattle.std.specs.List.{flat_map}
use Rattle.go_sgf.specs.Spelling.{property_parts}
use Rattle.go_sgf.proofs.Parts.{rest_le}
use Rattle.go_sgf.proofs.Passing.{into_node, nodes_first, nodes_more, nodes_passed, nodes_stop, nodes_whole, passes, refuses, shorter}
use Rattle.go_sgf.proofs.reader.read_nodes.Goals as goal

pub returns-then-not-begins_with-clause-place : goal.returns-then-not-begins_with-clause-place
returns-then-not-begins_with-clause-place g c = λ d h. refuses _ _ _
    (nodes_stop MAX_DEPTH d h c.args.bytes.now c.after_space-rest.result.now c.after_space-rest.ensures
    (sym c.if-not-begins_with.ensures)
    ∙ ap Err (sym c.unexpected.ensures))

pub loop-inside-init : goal.loop-inside-init
loop-inside-init g c = (
  [],
  λ _. sym (append-nil _),
  nodes_first c.args.bytes.now c.after_space-rest.result.now c.after_space-rest.ensures
      (sym c.if-not-begins_with.ensures),
)

pub loop-inside-smaller : goal.loop-inside-smaller
loop-inside-smaller g c =
    let read = c.in_ok-rest.ensures.read in
    shorter 59 c.loop-inside.rest.now c.in-Some.inside.now c.in_ok-rest.rest.now c.in-Some.ensures.stripped
    (rest_le (flat_map property_parts read.0) c.in-Some.inside.now c.in_ok-rest.rest.now read.2.spelling)

pub loop-inside-preserved : goal.loop-inside-preserved
loop-inside-preserved g c =
    let ns = c.loop-inside.invariant.0 in
    let read = c.in_ok-rest.ensures.read in (
      ns ++ read.0 ∷ [],
      λ keeps.
          read.1 keeps ∙ ap (λ us. us ++ read.0 ∷ []) (c.loop-inside.invariant.1 keeps)
          ∙ append_assoc c.args.list.now ns (read.0 ∷ []),
      nodes_more c.args.bytes.now ns (ns ++ read.0 ∷ []) c.loop-inside.rest.now c.in-Some.inside.now read.0
          c.in_ok-rest.rest.now
          c.loop-inside.invariant.2 refl c.in-Some.ensures.stripped read.2 c.in_ok-rest.ensures.stopped
          c.in_ok-rest.ensures.place,
    )

pub returns-clause-read : goal.returns-clause-read
returns-clause-read g c =
    let i = c.loop-inside.invariant in
    (i.0, i.1, nodes_whole c.args.bytes.now i.0 c.loop-inside.rest.now i.2 c.in_default.ensures.other)

pub returns-clause-place : goal.returns-clause-place
returns-clause-place g c =
    nodes_passed c.args.bytes.now c.loop-inside.invariant.0 c.loop-inside.rest.now c.loop-inside.invariant.2
    c.in_default.ensures.other

pub returns-in_err-rest-clause-place : goal.returns-in_err-rest-clause-place
returns-in_err-rest-clause-place g c = λ d h.
    let p = err_from_is_err_and c.from_residual.result c.from_residual.ensures.1 in
    rw (p.1, p.2)
    (passes _ _ _ _ _ (c.loop-inside.invariant.2.place d h
    ∙ into_node MAX_DEPTH d h c.loop-inside.rest.now c.in-Some.inside.now c.in-Some.ensures.stripped)
    (c.in_err-rest.ensures.place d h))
